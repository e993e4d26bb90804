-- Each function of the two C interfaces leaves one outcome for each input. Assumes nothing.
use mathlib.Core.Path.{refl, ap, sym, ◌∙◌}
use contract.Lifetimes.{Lfts}
use Rattle.maps.specs.Census.{census_lent}
use Rattle.answers.specs.Pyramid.{given}
use Rattle.interface.proofs.version.Reads as version-number
use Rattle.interface.proofs.ZgRefusalFromRefusal.from.Reads as refusal-told
use Rattle.interface.proofs.ZgRefusalFromResultUnitRefusal.from.Reads as refusal-as
use Rattle.interface.proofs.ZgReadingFromResultNeighbourRefusal.from.Reads as reading-as
use Rattle.interface.proofs.ZgLinkFromResultLinkRefusal.from.Reads as link-as
use Rattle.interface.proofs.ZgUnfoldingFromResultUnfoldingRefusal.from.Reads as unfolding-as
use Rattle.interface.proofs.ZgCountFromResultU32Refusal.from.Reads as count-as
use Rattle.interface.proofs.height_as.Reads as height-as
use Rattle.interface.proofs.ZgRecordFromResultSizesRefusal.from.Reads as record-as
use Rattle.interface.proofs.ZgWrittenFromResultU32Refusal.from.Reads as written_as
use Rattle.interface.proofs.ZgFactorFromFactor.from.Reads as factor-told
use Rattle.interface.proofs.ZgFactorFromResultFactorRefusal.from.Reads as factor-as
use Rattle.interface.proofs.base_as.Reads as base-as
use Rattle.zompelgors.proofs.zg_version.Reads as version
use Rattle.zompelgors.proofs.zg_check_base.Reads as check-base
use Rattle.zompelgors.proofs.zg_check.Reads as check
use Rattle.zompelgors.proofs.zg_add.Reads as add
use Rattle.zompelgors.proofs.zg_marks_of.Reads as marks-of
use Rattle.zompelgors.proofs.zg_read.Reads as read
use Rattle.zompelgors.proofs.zg_read_by_levels.Reads as by-levels
use Rattle.zompelgors.proofs.zg_unfold.Reads as unfold-level
use Rattle.zompelgors.proofs.zg_unfold_all.Reads as unfold-all
use Rattle.zompelgors.proofs.zg_row.Reads as row
use Rattle.zompelgors.proofs.zg_survivors.Reads as survivors
use Rattle.zompelgors.proofs.zg_mark_cells.Reads as mark-cells
use Rattle.zompelgors.proofs.zg_take.Reads as take
use Rattle.zompelgors.proofs.zg_write.Reads as write
use Rattle.zompelgors.proofs.zg_decimation.Reads as decimation
use Rattle.zompelgors.proofs.zg_census.Reads as census
use Rattle.counting.proofs.OneCensus.{put_leaves_one}
use Rattle.zompelgors.proofs.zg_import.Reads as import-map
use Rattle.zompelgors.proofs.zg_export.Reads as export-map
use Rattle.interface.specs.Flat.{said_by, refusal_for}
use Rattle.zompelgors_regions.proofs.zg_regions.Reads as regions
use Rattle.zompelgors.proofs.zg_join.Reads as join
use Rattle.zompelgors.proofs.zg_rebase.Reads as rebase
use Rattle.outcomes.proofs.One.{OneOutcome, one_outcome, nothing, three, same_three, four, same_four, pair, same_pair, five, same_five}
use Rattle.outcomes.proofs.Cells.{marking_same}
use Rattle.outcomes.proofs.Partner.{import_same, export_same}
use Rattle.outcomes.proofs.Regions.{naming_same}

-- the structs that are answered, and the version
pub version_one : (κs : Lfts 0) → OneOutcome (version-number.Learnt κs) (λ r. r) nothing
version_one κs = one_outcome _ _ _ (λ a r. r) (λ r. r) (λ a r. refl) _ _ (λ a r s c. (c, refl))

pub refusal_as_one : (κs : Lfts 0) → OneOutcome (refusal-as.Learnt κs) (λ r. r) nothing
refusal_as_one κs = one_outcome _ _ _ (λ a r. r) (λ r. r) (λ a r. refl) _ _ (λ a r s c. (c, refl))

pub refusal_told_one : (κs : Lfts 0) → OneOutcome (refusal-told.Learnt κs) (λ r. r) nothing
refusal_told_one κs = one_outcome _ _ _ (λ a. said_by) refusal_for (λ a r. refl) _ _ (λ a r s c. (c, refl))

pub reading_as_one : (κs : Lfts 0) → OneOutcome (reading-as.Learnt κs) (λ r. r) nothing
reading_as_one κs = one_outcome _ _ _ (λ a r. r) (λ r. r) (λ a r. refl) _ _ (λ a r s c. (c, refl))

pub link_as_one : (κs : Lfts 0) → OneOutcome (link-as.Learnt κs) (λ r. r) nothing
link_as_one κs = one_outcome _ _ _ (λ a r. r) (λ r. r) (λ a r. refl) _ _ (λ a r s c. (c, refl))

pub unfolding_as_one : (κs : Lfts 0) → OneOutcome (unfolding-as.Learnt κs) (λ r. r) nothing
unfolding_as_one κs = one_outcome _ _ _ (λ a r. r) (λ r. r) (λ a r. refl) _ _ (λ a r s c. (c, refl))

pub count_as_one : (κs : Lfts 0) → OneOutcome (count-as.Learnt κs) (λ r. r) nothing
count_as_one κs = one_outcome _ _ _ (λ a r. r) (λ r. r) (λ a r. refl) _ _ (λ a r s c. (c, refl))

pub height_as_one : (κs : Lfts 0) → OneOutcome (height-as.Learnt κs) (λ r. r) nothing
height_as_one κs = one_outcome _ _ _ (λ a r. r) (λ r. r) (λ a r. refl) _ _ (λ a r s c. (c, refl))

pub record_as_one : (κs : Lfts 0) → OneOutcome (record-as.Learnt κs) (λ r. r) nothing
record_as_one κs = one_outcome _ _ _ (λ a r. r) (λ r. r) (λ a r. refl) _ _ (λ a r s c. (c, refl))

pub written_as_one : (κs : Lfts 0) → OneOutcome (written_as.Learnt κs) (λ r. r) nothing
written_as_one κs = one_outcome _ _ _ (λ a r. r) (λ r. r) (λ a r. refl) _ _ (λ a r s c. (c, refl))

pub factor_as_one : (κs : Lfts 0) → OneOutcome (factor-as.Learnt κs) (λ r. r) nothing
factor_as_one κs = one_outcome _ _ _ (λ a r. r) (λ r. r) (λ a r. refl) _ _ (λ a r s c. (c, refl))

pub factor_told_one : (κs : Lfts 0) → OneOutcome (factor-told.Learnt κs) (λ r. r) nothing
factor_told_one κs = one_outcome _ _ _ (λ a r. r) (λ r. r) (λ a r. refl) _ _ (λ a r s c. (c, refl))

pub base_as_one : (κs : Lfts 0) → OneOutcome (base-as.Learnt κs) (λ r. r) nothing
base_as_one κs = one_outcome _ _ _ (λ a r. r) (λ r. r) (λ a r. refl) _ _ (λ a r s c. (c, refl))

pub zg_version_one : (κs : Lfts 0) → OneOutcome (version.Learnt κs) (λ r. r) nothing
zg_version_one κs = one_outcome _ _ _ (λ a r. r) (λ r. r) (λ a r. refl) _ _ (λ a r s c. (c, refl))

pub zg_check_base_one : (κs : Lfts 1) → OneOutcome (check-base.Learnt κs) (λ r. r) nothing
zg_check_base_one κs = one_outcome _ _ _ (λ a r. r) (λ r. r) (λ a r. refl) _ _ (λ a r s c. (c, refl))

-- the table
pub zg_check_one : (κs : Lfts 4) → OneOutcome (check.Learnt κs) (λ r. r) (λ s. s.1.1.1.1.1.1.0.now)
zg_check_one κs = one_outcome _ _ _ (λ a r. r) (λ r. r) (λ a r. refl) _ _ (λ a r s c. c)

-- Λ, Δ and the table
pub zg_add_one : (κs : Lfts 5) → OneOutcome (add.Learnt κs) (λ r. r) (λ s. three s.1.1.1.1.0.now s.1.1.1.1.1.0.now s.1.1.1.1.1.1.1.0.now)
zg_add_one κs = one_outcome _ _ _ (λ a r. r) (λ r. r) (λ a r. refl) _ _ (λ a r s c. (c.0, same_three c.1.0 c.1.1.0 c.1.1.1))

-- the mark row
pub zg_marks_of_one : (κs : Lfts 3) → OneOutcome (marks-of.Learnt κs) (λ r. r) (λ s. s.1.1.1.1.1.1.0.now)
zg_marks_of_one κs = one_outcome _ _ _ (λ a r. r) (λ r. r) (λ a r. refl) _ _ (λ a r s c. c)

pub zg_read_one : (κs : Lfts 3) → OneOutcome (read.Learnt κs) (λ r. r) nothing
zg_read_one κs = one_outcome _ _ _ (λ a r. r) (λ r. r) (λ a r. refl) _ _ (λ a r s c. (c, refl))

pub zg_read_by_levels_one : (κs : Lfts 3) → OneOutcome (by-levels.Learnt κs) (λ r. r) nothing
zg_read_by_levels_one κs = one_outcome _ _ _ (λ a r. r) (λ r. r) (λ a r. refl) _ _ (λ a r s c. (c, refl))

-- the table
pub zg_unfold_one : (κs : Lfts 4) → OneOutcome (unfold-level.Learnt κs) (λ r. r) (λ s. s.1.1.1.1.1.1.1.0.now)
zg_unfold_one κs = one_outcome _ _ _ (λ a r. r) (λ r. r) (λ a r. refl) _ _ (λ a r s c. c)

-- the blocks, the counts and the levels since which
pub zg_unfold_all_one : (κs : Lfts 6) → OneOutcome (unfold-all.Learnt κs) (λ r. r) (λ s. three s.1.1.1.1.1.1.0.now s.1.1.1.1.1.1.1.0.now s.1.1.1.1.1.1.1.1.0.now)
zg_unfold_all_one κs = one_outcome _ _ _ (λ a r. r) (λ r. r) (λ a r. refl) _ _ (λ a r s c. (c.0, same_three c.1.0 c.1.1.0 c.1.1.1))

pub zg_row_one : (κs : Lfts 2) → OneOutcome (row.Learnt κs) (λ r. r) nothing
zg_row_one κs = one_outcome _ _ _ (λ a r. r) (λ r. r) (λ a r. refl) _ _ (λ a r s c. (c, refl))

-- the words
pub zg_survivors_one : (κs : Lfts 2) → OneOutcome (survivors.Learnt κs) (λ r. r) (λ s. s.1.1.1.1.0.now)
zg_survivors_one κs = one_outcome _ _ _ (λ a r. r) (λ r. r) (λ a r. refl) _ _ (λ a r s c. c)

-- the mark row
pub zg_mark_cells_one : (κs : Lfts 2) → OneOutcome (mark-cells.Learnt κs) (λ r. r) (λ s. s.1.1.1.1.0.now)
zg_mark_cells_one κs a r r' s s' c c' = (c.0 ∙ sym c'.0, marking_same a.0 a.1.0 a.1.1.0.now a.1.1.1.0 a.1.1.1.1.0.now _ _ c.1 c'.1)

-- rows, Λ, Δ and the table
pub zg_take_one : (κs : Lfts 5) → OneOutcome (take.Learnt κs) (λ r. r) (λ s. four s.1.0.now s.1.1.0.now s.1.1.1.0.now s.1.1.1.1.0.now)
zg_take_one κs = one_outcome _ _ _ (λ a r. r) (λ r. r) (λ a r. refl) _ _ (λ a r s c. (c.0, same_four c.1.0 c.1.1.0 c.1.1.1.0 c.1.1.1.1))

-- the table and the buffer
pub zg_write_one : (κs : Lfts 5) → OneOutcome (write.Learnt κs) (λ r. r) (λ s. pair s.1.1.1.1.1.1.0.now s.1.1.1.1.1.1.1.0.now)
zg_write_one κs = one_outcome _ _ _ (λ a r. r) (λ r. r) (λ a r. refl) _ _ (λ a r s c. (c.0, same_pair c.1.0 c.1.1))

-- the table
pub zg_decimation_one : (κs : Lfts 4) → OneOutcome (decimation.Learnt κs) (λ r. r) (λ s. s.1.1.1.1.1.1.0.now)
zg_decimation_one κs = one_outcome _ _ _ (λ a r. r) (λ r. r) (λ a r. refl) _ _ (λ a r s c. c)

-- the table, the counts and the sums, of which the contract says what they count
pub zg_census_one : (κs : Lfts 6) → OneOutcome (census.Learnt κs) (λ r. r) (λ s. three s.1.1.1.1.1.1.0.now s.1.1.1.1.1.1.1.0.now s.1.1.1.1.1.1.1.1.0.now)
zg_census_one κs a r r' s s' c c' =
    let w = put_leaves_one (given a.0 a.1.0 a.1.1.0 a.1.1.1.0.now a.1.1.1.1.0.now a.1.1.1.1.1.0.now) (census_lent (given a.0 a.1.0 a.1.1.0 a.1.1.1.0.now a.1.1.1.1.0.now a.1.1.1.1.1.0.now) a.1.1.1.1.1.1.0.now a.1.1.1.1.1.1.1.0.now a.1.1.1.1.1.1.1.1.0.now) a.1.1.1.1.1.1.1.0.now a.1.1.1.1.1.1.1.1.0.now _ _ _ _ c.1.1 c'.1.1 in
    (c.0 ∙ sym c'.0, same_three (c.1.0 ∙ sym c'.1.0) w.0 w.1)

-- the base rows
pub zg_import_one : (κs : Lfts 3) → OneOutcome (import-map.Learnt κs) (λ r. r) (λ s. s.1.1.1.0.now)
zg_import_one κs a r r' s s' c c' = (c.0 ∙ sym c'.0, import_same a.0 a.1.0.now a.1.1.0.now a.1.1.1.0.now _ _ c.1 c'.1)

-- the two rows
pub zg_export_one : (κs : Lfts 3) → OneOutcome (export-map.Learnt κs) (λ r. r) (λ s. pair s.1.1.1.0.now s.1.1.1.1.0.now)
zg_export_one κs a r r' s s' c c' =
    let e = export_same a.0 a.1.0 a.1.1.0.now a.1.1.1.0.now a.1.1.1.1.0.now c.0 c'.0 _ _ _ _ c.2 c'.2 in
    (c.1 ∙ ap refusal_for e.0 ∙ sym c'.1, same_pair e.1 e.2)

-- the table and the name row
pub zg_regions_one : (κs : Lfts 5) → OneOutcome (regions.Learnt κs) (λ r. r) (λ s. pair s.1.1.1.1.1.1.0.now s.1.1.1.1.1.1.1.1.0.now)
zg_regions_one κs a r r' s s' c c' =
    (c.0 ∙ sym c'.0, same_pair (c.1.0 ∙ sym c'.1.0) (naming_same (given a.0 a.1.0 a.1.1.0 a.1.1.1.0.now a.1.1.1.1.0.now a.1.1.1.1.1.0.now) a.1.1.1.1.1.1.0.now a.1.1.1.1.1.1.1.0 a.1.1.1.1.1.1.1.1.0.now _ _ c.1.1 c'.1.1))

-- Λ and the table
pub zg_join_one : (κs : Lfts 4) → OneOutcome (join.Learnt κs) (λ r. r) (λ s. pair s.1.1.1.1.0.now s.1.1.1.1.1.1.0.now)
zg_join_one κs = one_outcome _ _ _ (λ a r. r) (λ r. r) (λ a r. refl) _ _ (λ a r s c. (c.0, same_pair c.1.0 c.1.1))

-- rows, Λ, Δ, the table and the old numbers
pub zg_rebase_one : (κs : Lfts 5) → OneOutcome (rebase.Learnt κs) (λ r. r) (λ s. five s.1.1.1.0.now s.1.1.1.1.0.now s.1.1.1.1.1.0.now s.1.1.1.1.1.1.0.now s.1.1.1.1.1.1.1.1.0.now)
zg_rebase_one κs = one_outcome _ _ _ (λ a r. r) (λ r. r) (λ a r. refl) _ _ (λ a r s c. (c.0, same_five c.1.0 c.1.1.0 c.1.1.1.0 c.1.1.1.1.0 c.1.1.1.1.1))
