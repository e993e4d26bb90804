-- Each job leaves one outcome for each input. Assumes nothing.
use mathlib.Core.Path.{refl, ap, ap₂, sym, ◌∙◌}
use contract.Lifetimes.{Lfts}
use Rattle.maps.specs.CheckPyramid.{check_lent}
use Rattle.maps.specs.Census.{census_lent}
use Rattle.answers.specs.Pyramid.{folded}
use Rattle.answers.specs.Numbers.{verdict_of, said}
use Rattle.by_levels.specs.Answers.{value_of}
use Rattle.taking.specs.Answers.{taken_of}
use Rattle.writing.specs.Answers.{written_of}
use Rattle.decimation.specs.Answers.{factor_of}
use Rattle.starting_again.specs.Answers.{rebased_of}
use Rattle.answers.proofs.in_range.Reads as in-range
use Rattle.answers.proofs.row_fits.Reads as row_fits
use Rattle.answers.proofs.entries.Reads as entries
use Rattle.answers.proofs.rows_fit.Reads as rows_fit
use Rattle.answers.proofs.pyramid_fits.Reads as pyramid-fits
use Rattle.answers.proofs.lent.Reads as lent
use Rattle.answers.proofs.asked.Reads as asked
use Rattle.answers.proofs.is_mark.Reads as is-mark
use Rattle.answers.proofs.has_beyond.Reads as has-beyond
use Rattle.answers.proofs.contracts.Reads as contracts
use Rattle.answers.proofs.removes.Reads as removes
use Rattle.answers.proofs.is_gone.Reads as is-gone
use Rattle.answers.proofs.in_kernel.Reads as in-kernel
use Rattle.answers.proofs.marks_refused.Reads as marks-refused
use Rattle.answers.proofs.marks_refusal.Reads as marks-refusal
use Rattle.answers.proofs.NumbersFromRefusal.from.Reads as numbers-of
use Rattle.bases.proofs.check_base.Reads as check-base
use Rattle.bases.proofs.check_explicit.Reads as check-explicit
use Rattle.bases.proofs.largest.Reads as largest
use Rattle.orbits.proofs.Search.begin.Reads as search-begin
use Rattle.checking.proofs.early_with.Reads as early-with
use Rattle.checking.proofs.early.Reads as early
use Rattle.checking.proofs.check.Reads as check
use Rattle.checking.proofs.add.Reads as add
use Rattle.marks_back.proofs.marks_of.Reads as marks-of
use Rattle.rows.proofs.row.Reads as row
use Rattle.rows.proofs.row_refusal.Reads as row-refusal
use Rattle.survivor_words.proofs.survivors.Reads as survivors
use Rattle.questions.proofs.question.Reads as question
use Rattle.reading.proofs.read.Reads as read
use Rattle.one_level.proofs.unfold.Reads as unfold-level
use Rattle.by_levels.proofs.read_by_levels.Reads as by-levels
use Rattle.cells.proofs.mark_cells.Reads as mark-cells
use Rattle.taking.proofs.take.Reads as take
use Rattle.taking.proofs.take_old.Reads as take-old
use Rattle.writing.proofs.write.Reads as write
use Rattle.writing.proofs.write_accepted.Reads as write-accepted
use Rattle.decimation.proofs.decimation.Reads as decimation
use Rattle.counting.proofs.census.Reads as census
use Rattle.counting.proofs.census_into.Reads as census-into
use Rattle.counting.proofs.OneCensus.{leaves_one, put_leaves_one}
use Rattle.combinatorial.proofs.import.Reads as import-map
use Rattle.combinatorial.proofs.export.Reads as export-map
use Rattle.regions.proofs.name_regions.Reads as name-regions
use Rattle.converting.proofs.convert.Reads as convert
use Rattle.joined_kernels.proofs.lambda_joined.Reads as lambda-joined
use Rattle.joined_kernels.proofs.join_lambda.Reads as join-lambda
use Rattle.joining.proofs.join.Reads as join
use Rattle.starting_again.proofs.rebase.Reads as rebase
use Rattle.stacking.proofs.stack.Reads as stack
use Rattle.unfolding.proofs.unfold_all.Reads as unfold-all
use Rattle.outcomes.proofs.One.{OneOutcome, one_outcome, nothing, three, same_three, four, same_four, five, same_five, pair, same_pair}
use Rattle.outcomes.proofs.Answers.{level, check_from, check_told, reading_from, reading_told, values_of_link, link_from, link_told, values_of_total, total_from, total_told, values_of_survivors, survivors_from, survivors_told, values_of_height, height_from, height_told, taken_from, taken_told, written_from, written_told, factor_from, factor_told, rebased_from, rebased_told, numbers_from, numbers_told}
use Rattle.outcomes.proofs.Cells.{marking_same}
use Rattle.outcomes.proofs.Partner.{import_same, export_same}
use Rattle.outcomes.proofs.Regions.{naming_same}

pub check_base_one : (κs : Lfts 1) → OneOutcome (check-base.Learnt κs) (λ r. r) nothing
check_base_one κs = one_outcome _ _ _ (λ a. verdict_of) check_from (λ a. check_told) _ _ (λ a r s c. (c, refl))

pub check_explicit_one : (κs : Lfts 1) → OneOutcome (check-explicit.Learnt κs) (λ r. r) nothing
check_explicit_one κs = one_outcome _ _ _ (λ a. verdict_of) check_from (λ a. check_told) _ _ (λ a r s c. (c, refl))

pub largest_one : (κs : Lfts 1) → OneOutcome (largest.Learnt κs) (λ r. r) nothing
largest_one κs = one_outcome _ _ _ (λ a r. r) (λ r. r) (λ a r. refl) _ _ (λ a r s c. (c.0, refl))

pub early_with_one : (κs : Lfts 2) → OneOutcome (early-with.Learnt κs) (λ r. r) nothing
early_with_one κs = one_outcome _ _ _ (λ a. verdict_of) check_from (λ a. check_told) _ _ (λ a r s c. (c, refl))

pub early_one : (κs : Lfts 3) → OneOutcome (early.Learnt κs) (λ r. r) nothing
early_one κs = one_outcome _ _ _ (λ a. verdict_of) check_from (λ a. check_told) _ _ (λ a r s c. (c, refl))

-- the table
pub check_one : (κs : Lfts 3) → OneOutcome (check.Learnt κs) (λ r. r) (λ s. s.1.0.now)
check_one κs = one_outcome _ _ _ (λ a. verdict_of) check_from (λ a. check_told) _ _ (λ a r s c. c)

-- Λ, Δ and the table
pub add_one : (κs : Lfts 5) → OneOutcome (add.Learnt κs) (λ r. r) (λ s. three s.1.1.0.now s.1.1.1.0.now s.1.1.1.1.1.0.now)
add_one κs =
    one_outcome _ _ _ (λ a. values_of_height a.0.h.0) height_from (λ a. height_told a.0.h.0) _ _ (λ a r s c.
    (ap₂ (λ v h. (v, h)) c.0 c.1.0, same_three c.1.1.0 c.1.1.1.0 c.1.1.1.1))

-- the mark row
pub marks_of_one : (κs : Lfts 3) → OneOutcome (marks-of.Learnt κs) (λ r. r) (λ s. s.1.1.1.1.0.now)
marks_of_one κs = one_outcome _ _ _ (λ a. verdict_of) check_from (λ a. check_told) _ _ (λ a r s c. c)

pub question_one : (κs : Lfts 2) → OneOutcome (question.Learnt κs) (λ r. r) nothing
question_one κs = one_outcome _ _ _ (λ a. verdict_of) check_from (λ a. check_told) _ _ (λ a r s c. (c, refl))

pub read_one : (κs : Lfts 2) → OneOutcome (read.Learnt κs) (λ r. r) nothing
read_one κs = one_outcome _ _ _ (λ a. values_of_link) link_from (λ a. link_told) _ _ (λ a r s c. (ap₂ (λ v x. (v, x)) c.0 c.1, refl))

pub read_by_levels_one : (κs : Lfts 2) → OneOutcome (by-levels.Learnt κs) (λ r. r) nothing
read_by_levels_one κs = one_outcome _ _ _ (λ a. value_of) reading_from (λ a. reading_told) _ _ (λ a r s c. (c, refl))

-- the table
pub unfold_one : (κs : Lfts 3) → OneOutcome (unfold-level.Learnt κs) (λ r. r) (λ s. s.1.1.0.now)
unfold_one κs = one_outcome _ _ _ (λ a. values_of_total) total_from (λ a. total_told) _ _ (λ a r s c. ((λ k. (c.0 k, c.1.0 k, c.1.1.0 k)), c.1.1.1))

-- A row is fixed in what it holds. Which of two slices an empty part is of is not said.
pub row_one : (κs : Lfts 1) → OneOutcome (row.Learnt κs) (λ x. x.now) nothing
row_one κs = one_outcome _ _ _ (λ a v. v) (λ v. v) (λ a v. refl) _ _ (λ a r s c. (c, refl))

pub row_refusal_one : (κs : Lfts 2) → OneOutcome (row-refusal.Learnt κs) (λ r. r) nothing
row_refusal_one κs = one_outcome _ _ _ (λ a. verdict_of) check_from (λ a. check_told) _ _ (λ a r s c. (c, refl))

-- the words
pub survivors_one : (κs : Lfts 2) → OneOutcome (survivors.Learnt κs) (λ r. r) (λ s. s.1.1.1.1.0.now)
survivors_one κs = one_outcome _ _ _ (λ a. values_of_survivors) survivors_from (λ a. survivors_told) _ _ (λ a r s c. (ap₂ (λ v t. (v, t)) c.0 c.1.0, c.1.1))

-- the mark row, of which the contract says for each dart what its mark is
pub mark_cells_one : (κs : Lfts 2) → OneOutcome (mark-cells.Learnt κs) (λ r. r) (λ s. s.1.1.1.1.0.now)
mark_cells_one κs a r r' s s' c c' =
    (sym (check_told r) ∙ ap check_from (c.0 ∙ sym c'.0) ∙ check_told r', marking_same a.0.0 a.1.0 a.1.1.0.now a.1.1.1.0.0 a.1.1.1.1.0.now _ _ c.1 c'.1)

-- rows, Λ, Δ and the table
pub take_one : (κs : Lfts 5) → OneOutcome (take.Learnt κs) (λ r. r) (λ s. four s.1.0.now s.1.1.0.now s.1.1.1.0.now s.1.1.1.1.0.now)
take_one κs =
    one_outcome _ _ _ (λ a. taken_of) taken_from (λ a. taken_told) _ _ (λ a r s c.
    (c.0, same_four c.1.0 c.1.1.0 c.1.1.1.0 c.1.1.1.1))

pub take_old_one : (κs : Lfts 5) → OneOutcome (take-old.Learnt κs) (λ r. r) (λ s. four s.1.0.now s.1.1.0.now s.1.1.1.0.now s.1.1.1.1.0.now)
take_old_one κs =
    one_outcome _ _ _ (λ a. taken_of) taken_from (λ a. taken_told) _ _ (λ a r s c.
    (c.0, same_four c.1.0 c.1.1.0 c.1.1.1.0 c.1.1.1.1))

-- the buffer
pub write_accepted_one : (κs : Lfts 3) → OneOutcome (write-accepted.Learnt κs) (λ r. r) (λ s. s.1.0.now)
write_accepted_one κs = one_outcome _ _ _ (λ a. written_of) written_from (λ a. written_told) _ _ (λ a r s c. (c.0, c.1))

-- the table and the buffer
pub write_one : (κs : Lfts 4) → OneOutcome (write.Learnt κs) (λ r. r) (λ s. pair s.1.0.now s.1.1.0.now)
write_one κs = one_outcome _ _ _ (λ a. written_of) written_from (λ a. written_told) _ _ (λ a r s c. (c.0, same_pair c.1.0 c.1.1))

-- the table
pub decimation_one : (κs : Lfts 3) → OneOutcome (decimation.Learnt κs) (λ r. r) (λ s. s.1.0.now)
decimation_one κs = one_outcome _ _ _ (λ a. factor_of) factor_from (λ a. factor_told) _ _ (λ a r s c. c)

-- the table, the counts and the sums, in arrays
pub census_one : (κs : Lfts 5) → OneOutcome (census.Learnt κs) (λ r. r) (λ s. three s.1.0.now s.1.1.0.now s.1.1.1.0.now)
census_one κs a r r' s s' c c' =
    let w = leaves_one (folded a.0.now) (check_lent (folded a.0.now) a.1.0.now) a.1.1.0.now a.1.1.1.0.now _ _ _ _ c.1.1 c'.1.1 in
    (sym (check_told r) ∙ ap check_from (c.0 ∙ sym c'.0) ∙ check_told r', same_three (c.1.0 ∙ sym c'.1.0) w.0 w.1)

-- and in slices
pub census_into_one : (κs : Lfts 5) → OneOutcome (census-into.Learnt κs) (λ r. r) (λ s. three s.1.0.now s.1.1.0.now s.1.1.1.0.now)
census_into_one κs a r r' s s' c c' =
    let w = put_leaves_one (folded a.0.now) (census_lent (folded a.0.now) a.1.0.now a.1.1.0.now a.1.1.1.0.now) a.1.1.0.now a.1.1.1.0.now _ _ _ _ c.1.1 c'.1.1 in
    (sym (check_told r) ∙ ap check_from (c.0 ∙ sym c'.0) ∙ check_told r', same_three (c.1.0 ∙ sym c'.1.0) w.0 w.1)

-- the base rows, which are those that the two rows yield
pub import_one : (κs : Lfts 3) → OneOutcome (import-map.Learnt κs) (λ r. r) (λ s. s.1.1.1.0.now)
import_one κs a r r' s s' c c' =
    (sym (check_told r) ∙ ap check_from (c.0 ∙ sym c'.0) ∙ check_told r', import_same a.0 a.1.0.now a.1.1.0.now a.1.1.1.0.now _ _ c.1 c'.1)

-- the two rows, which are those that yield the base
pub export_one : (κs : Lfts 3) → OneOutcome (export-map.Learnt κs) (λ r. r) (λ s. pair s.1.1.1.0.now s.1.1.1.1.0.now)
export_one κs a r r' s s' c c' =
    let e = export_same a.0.0 a.1.0 a.1.1.0.now a.1.1.1.0.now a.1.1.1.1.0.now (verdict_of r) (verdict_of r') _ _ _ _ c c' in
    (sym (check_told r) ∙ ap check_from e.0 ∙ check_told r', same_pair e.1 e.2)

-- the table, and the name row, of which the contract says for each dart what its name is
pub name_regions_one : (κs : Lfts 4) → OneOutcome (name-regions.Learnt κs) (λ r. r) (λ s. pair s.1.1.0.now s.1.1.1.0.now)
name_regions_one κs a r r' s s' c c' =
    (sym (check_told r) ∙ ap check_from (c.0 ∙ sym c'.0) ∙ check_told r', same_pair (c.1.0 ∙ sym c'.1.0) (naming_same (folded a.0.now) a.1.1.0.now a.1.0.0 a.1.1.1.0.now _ _ c.1.1 c'.1.1))

-- rows, Λ, Δ, the table and the buffer
pub convert_one : (κs : Lfts 6) → OneOutcome (convert.Learnt κs) (λ r. r) (λ s. five s.1.0.now s.1.1.0.now s.1.1.1.0.now s.1.1.1.1.0.now s.1.1.1.1.1.0.now)
convert_one κs =
    one_outcome _ _ _ (λ a. written_of) written_from (λ a. written_told) _ _ (λ a r s c.
    (c.0, same_five c.1.0 c.1.1.0 c.1.1.1.0 c.1.1.1.1.0 c.1.1.1.1.1))

pub lambda_joined_one : (κs : Lfts 0) → OneOutcome (lambda-joined.Learnt κs) (λ r. r) nothing
lambda_joined_one κs = one_outcome _ _ _ (λ a r. r.0) level (λ a r. refl) _ _ (λ a r s c. (c, refl))

-- Λ
pub join_lambda_one : (κs : Lfts 1) → OneOutcome (join-lambda.Learnt κs) (λ r. r) (λ s. s.1.0.now)
join_lambda_one κs = one_outcome _ _ _ (λ a r. r) (λ r. r) (λ a r. refl) _ _ (λ a r s c. (refl, c))

-- Λ and the table
pub join_one : (κs : Lfts 4) → OneOutcome (join.Learnt κs) (λ r. r) (λ s. pair s.1.1.0.now s.1.1.1.1.0.now)
join_one κs =
    one_outcome _ _ _ (λ a. values_of_height a.0.h.0) height_from (λ a. height_told a.0.h.0) _ _ (λ a r s c.
    (ap₂ (λ v h. (v, h)) c.0 c.1.0, same_pair c.1.1.0 c.1.1.1))

-- rows, Λ, Δ, the table and the old numbers
pub rebase_one : (κs : Lfts 5) → OneOutcome (rebase.Learnt κs) (λ r. r) (λ s. five s.1.0.now s.1.1.0.now s.1.1.1.0.now s.1.1.1.1.0.now s.1.1.1.1.1.0.now)
rebase_one κs = one_outcome _ _ _ (λ a. rebased_of a.0.sizes) rebased_from (λ a. rebased_told a.0.sizes) _ _ (λ a r s c. (c.0, same_five c.1.0 c.1.1.0 c.1.1.1.0 c.1.1.1.1.0 c.1.1.1.1.1))

-- the blocks
pub stack_one : (κs : Lfts 3) → OneOutcome (stack.Learnt κs) (λ r. r) (λ s. s.1.0.now)
stack_one κs = one_outcome _ _ _ (λ a. verdict_of) check_from (λ a. check_told) _ _ (λ a r s c. c)

-- the blocks, the counts and the levels since which
pub unfold_all_one : (κs : Lfts 5) → OneOutcome (unfold-all.Learnt κs) (λ r. r) (λ s. three s.1.0.now s.1.1.0.now s.1.1.1.0.now)
unfold_all_one κs = one_outcome _ _ _ (λ a. verdict_of) check_from (λ a. check_told) _ _ (λ a r s c. (c.0, same_three c.1.0 c.1.1.0 c.1.1.1))

-- what jobs share
pub in_range_one : (κs : Lfts 0) → OneOutcome (in-range.Learnt κs) (λ r. r) nothing
in_range_one κs = one_outcome _ _ _ (λ a. verdict_of) check_from (λ a. check_told) _ _ (λ a r s c. (c, refl))

pub marks_refused_one : (κs : Lfts 0) → OneOutcome (marks-refused.Learnt κs) (λ r. r) nothing
marks_refused_one κs = one_outcome _ _ _ (λ a r. r) (λ r. r) (λ a r. refl) _ _ (λ a r s c. (c, refl))

pub marks_refusal_one : (κs : Lfts 2) → OneOutcome (marks-refusal.Learnt κs) (λ r. r) nothing
marks_refusal_one κs = one_outcome _ _ _ (λ a. verdict_of) check_from (λ a. check_told) _ _ (λ a r s c. (c, refl))

pub numbers_of_one : (κs : Lfts 0) → OneOutcome (numbers-of.Learnt κs) (λ r. r) nothing
numbers_of_one κs = one_outcome _ _ _ (λ a. said) numbers_from (λ a. numbers_told) _ _ (λ a r s c. (c, refl))

pub row_fits_one : (κs : Lfts 0) → OneOutcome (row_fits.Learnt κs) (λ r. r) nothing
row_fits_one κs = one_outcome _ _ _ (λ a r. r) (λ r. r) (λ a r. refl) _ _ (λ a r s c. (c, refl))

pub entries_one : (κs : Lfts 0) → OneOutcome (entries.Learnt κs) (λ r. r) nothing
entries_one κs = one_outcome _ _ _ (λ a r. r) (λ r. r) (λ a r. refl) _ _ (λ a r s c. (c, refl))

pub rows_fit_one : (κs : Lfts 0) → OneOutcome (rows_fit.Learnt κs) (λ r. r) nothing
rows_fit_one κs = one_outcome _ _ _ (λ a r. r) (λ r. r) (λ a r. refl) _ _ (λ a r s c. (c, refl))

pub pyramid_fits_one : (κs : Lfts 0) → OneOutcome (pyramid-fits.Learnt κs) (λ r. r) nothing
pyramid_fits_one κs = one_outcome _ _ _ (λ a r. r) (λ r. r) (λ a r. refl) _ _ (λ a r s c. (c, refl))

pub lent_one : (κs : Lfts 0) → OneOutcome (lent.Learnt κs) (λ r. r) nothing
lent_one κs = one_outcome _ _ _ (λ a. verdict_of) check_from (λ a. check_told) _ _ (λ a r s c. (c, refl))

pub asked_one : (κs : Lfts 0) → OneOutcome (asked.Learnt κs) (λ r. r) nothing
asked_one κs = one_outcome _ _ _ (λ a. verdict_of) check_from (λ a. check_told) _ _ (λ a r s c. (c, refl))

pub is_mark_one : (κs : Lfts 0) → OneOutcome (is-mark.Learnt κs) (λ r. r) nothing
is_mark_one κs = one_outcome _ _ _ (λ a r. r) (λ r. r) (λ a r. refl) _ _ (λ a r s c. (c, refl))

pub has_beyond_one : (κs : Lfts 0) → OneOutcome (has-beyond.Learnt κs) (λ r. r) nothing
has_beyond_one κs = one_outcome _ _ _ (λ a r. r) (λ r. r) (λ a r. refl) _ _ (λ a r s c. (c, refl))

pub contracts_one : (κs : Lfts 0) → OneOutcome (contracts.Learnt κs) (λ r. r) nothing
contracts_one κs = one_outcome _ _ _ (λ a r. r) (λ r. r) (λ a r. refl) _ _ (λ a r s c. (c, refl))

pub removes_one : (κs : Lfts 0) → OneOutcome (removes.Learnt κs) (λ r. r) nothing
removes_one κs = one_outcome _ _ _ (λ a r. r) (λ r. r) (λ a r. refl) _ _ (λ a r s c. (c, refl))

pub is_gone_one : (κs : Lfts 0) → OneOutcome (is-gone.Learnt κs) (λ r. r) nothing
is_gone_one κs = one_outcome _ _ _ (λ a r. r) (λ r. r) (λ a r. refl) _ _ (λ a r s c. (c, refl))

pub in_kernel_one : (κs : Lfts 0) → OneOutcome (in-kernel.Learnt κs) (λ r. r) nothing
in_kernel_one κs = one_outcome _ _ _ (λ a r. r) (λ r. r) (λ a r. refl) _ _ (λ a r s c. (c, refl))

pub begin_one : (κs : Lfts 0) → OneOutcome (search-begin.Learnt κs) (λ r. r) nothing
begin_one κs = one_outcome _ _ _ (λ a r. r) (λ r. r) (λ a r. refl) _ _ (λ a r s c. (c, refl))
