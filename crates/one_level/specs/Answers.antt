-- The document's values for the answers of an unfolding. Assumes nothing: these are definitions.
-- the count of all walks, and since which level all links of the level stand; both 0 in a refusal
pub use Rattle.filling.specs.Walks.{total_of, latest_of}
