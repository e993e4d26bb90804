-- What other crates may cite of orbits: joined, turned round and in a closed set; that nothing is reached before a search, and that an empty queue has room; and the choice of every row. Assumes nothing.
pub use Rattle.orbits.proofs.Orbits.{orbit_join, closed_orbit, orbit_present, orbit_back}
pub use Rattle.orbits.proofs.Sets.{none_has, none_room, queue_empty}
pub use Rattle.orbits.proofs.Decided.{none}
pub use Rattle.orbits.proofs.Choices.{all_rows}
