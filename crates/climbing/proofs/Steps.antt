-- All kernels one after the other: what the table holds, and the verdict so far. Assumes nothing.
use mathlib.Core.Path.{◌≡◌, refl, sym, ap, ◌∙◌}
use mathlib.Core.Bool.{true}
use mathlib.Core.List.{List}
use Prim.Native.Nat.{ℕ, ◌+◌, ◌≤◌, ◌<◌}
use native.Mathlib.Numerals.{add-one}
use native.Mathlib.Omega.{arith}
use lib.ListN.{length}
use borrow.Author.Tests.{lt-ltb, eqb-true}
use Rattle.maps.specs.Verdict.{accepted, refused, scan}
use Rattle.maps.specs.Mark.{is_mark}
use Rattle.maps.specs.Table.{entry, each}
use Rattle.maps.specs.Folded.{marks, survives, level, level_table, Folded, lambda_of, delta_of}
use Rattle.maps.specs.Check.{check_kernel, kernel_at, check_kernels}
use Rattle.maps.specs.CheckPyramid.{left_behind}
use Rattle.laws.proofs.Verdicts.{scan_first, scan_more}
use Rattle.laws.proofs.Tables.{length_explicit}
use Rattle.laws.proofs.MarkRows.{allowed_small}
use Rattle.facts.proofs.Climbing.{base_table, table_sound, marked_present, row_check, kernel_marked, next_table}
use Rattle.answers.specs.Numbers.{refusal_of}
use Rattle.answers.specs.declared.Refusal.{Refusal}
use Rattle.answers.proofs.Refusals.{refusal_refuses, refusal_keeps}
use Rattle.kernels.specs.Strings.{kernel_row, Linked, Marks, Strung}
use Rattle.kernels.specs.Ready.{Tested, removed_from, step_leaves}
use Rattle.kernels.proofs.Strung.{in_kernel_lem, first_same}
use Rattle.climbing.specs.Climb.{Base, kernel_of, climbs, climb_leaves, climbs_to, climb_to_leaves, Climbed}
use Rattle.climbing.proofs.Verdicts.{kernel_late, late_leaves, scan_stops}

pub climb_none : {f : Folded} {head next table : List ℕ} → Base f → Linked (length f.lambda) (lambda_of f) 0 head next → table ≡ f.rows → Climbed f 0 head next table
unfolding scan
climb_none {f} b linked copied = record {
  base = b;
  low = omega arith;
  checked = refl;
  holds = copied ∙ base_table f.n f.N f.h f.rows (lambda_of f) (delta_of f) b.rows_long;
  strung = rw b.lambda_long at linked;
}

-- a climb that is refused below a level is refused, and has left what the whole climb leaves
pub climb_stopped : (P : Folded) (l : ℕ) → l ≤ P.h → (r : Refusal) {after : List ℕ} → refusal_of r ≡ climbs_to P l → after ≡ climb_to_leaves P l → (refusal_of r ≡ climbs P) × (after ≡ climb_leaves P)
unfolding left_behind check_kernels
climb_stopped P l low r e leaves =
    let x = refusal_refuses r in
    let here : climbs_to P l ≡ refused x.number x.level x.involution x.dart = sym e ∙ x.is in
    let all : climbs P ≡ refused x.number x.level x.involution x.dart = scan_stops (kernel_of P) l P.h low here in
    (x.is ∙ sym all, leaves ∙ rw (here, all))

module _ {P : Folded} {l : ℕ} {head next table : List ℕ} (c : Climbed P l head next table) where
  open P use {n, N, h, rows, lambda, delta}

  pub climb_long : length table ≡ length rows
  climb_long = ap length c.holds ∙ length_explicit (level (entry N rows) n N (marks h (each lambda) (each delta)) l) n N (survives (each lambda) l) ∙ sym c.base.rows_long

  -- all kernels below a level
  pub climb_all : (top : ℕ) → l ≡ top → (accepted ≡ climbs_to P top) × (table ≡ climb_to_leaves P top)
  unfolding left_behind
  climb_all top e =
      let all : climbs_to P top ≡ accepted = rw e at c.checked in
      (sym all, rw all (rw e at c.holds))

  -- a climb that goes on to level `top` and is accepted has climbed to it
  pub climb_reached : {top : ℕ} {after : List ℕ} → top ≤ h → accepted ≡ climbs_to P top → after ≡ climb_to_leaves P top → Climbed P top head next after
  unfolding left_behind
  climb_reached low e leaves = record { base = c.base; low = low; checked = sym e; holds = leaves ∙ rw (← e); strung = c.strung }

  -- kernel l
  module _ (f : l < h) where
    abbrev row : ℕ → ℕ
    row = kernel_row lambda delta l

    kernel_marks : Marks n N l lambda delta
    kernel_marks =
        let b = c.base in
        record { lambda_long = b.lambda_long; delta_long = b.delta_long; marked = λ d ld q. allowed_small n h (each lambda) (each delta) d (b.allowed d ld) (omega arith) }

    pub climb_strung : {first : ℕ} → first ≡ each head l → Strung n N l first lambda delta next
    climb_strung e =
        let w = c.strung in
        let z = c.base.height in
        let same = in_kernel_lem kernel_marks c.base.dimension in
        record { marks = kernel_marks; string = record { start = rw e (first_same same (w.heads l (omega arith))); onward = λ d ld q. first_same same (rw (kernel_of_lem d ld q) at (w.onward d (omega arith) ld)) } }
      where
        kernel_of_lem : (d : ℕ) → d < N → is_mark n (row d) ≡ true → each lambda d ≡ l
        kernel_of_lem d ld q = eqb-true (each lambda d) l (in_kernel_lem kernel_marks c.base.dimension d ld ∙ q)

    row_is : (d : ℕ) → d < N → marks h (each lambda) (each delta) l d ≡ row d
    unfolding kernel_row
    row_is d ld = rw (lt-ltb l h f)

    marked_above : (d : ℕ) → d < N → is_mark n (row d) ≡ true → l ≤ each lambda d
    marked_above d ld q =
        let b = c.base in
        kernel_marked (entry N rows) n N h (each lambda) (each delta) b.dimension b.darts b.valid b.allowed l c.low c.checked d (rw (row_is d ld) q)

    pub climb_tested : Tested n N row table
    climb_tested =
        let b = c.base in
        record {
          shape = record { dimension = b.dimension; darts = b.darts; exact = climb_long ∙ b.rows_long };
          sound = rw c.holds (table_sound (entry N rows) n N h (each lambda) (each delta) b.dimension b.darts b.valid b.allowed l c.low c.checked);
          marked = rw c.holds (marked_present (entry N rows) n N h (each lambda) (each delta) b.dimension b.darts b.valid b.allowed l c.low c.checked row marked_above);
        }

    -- the kernel's check on the table is its check on the level
    pub kernel_is : check_kernel (entry N table) n N row l ≡ kernel_at (entry N rows) n N h (each lambda) (each delta) l
    unfolding kernel_at
    kernel_is =
        let b = c.base in
        rw c.holds (row_check (entry N rows) n N h (each lambda) (each delta) b.dimension b.darts b.valid b.allowed l c.low c.checked row marked_above (marks h (each lambda) (each delta) l) row_is)

    module _ {after : List ℕ} (leaves : after ≡ step_leaves n N l row table) where
      pub climb_refused : (top : ℕ) → l < top → (r : Refusal) → refusal_of r ≡ check_kernel (entry N table) n N row l → (refusal_of r ≡ climbs_to P top) × (after ≡ climb_to_leaves P top)
      unfolding kernel_at
      climb_refused top g r e =
          let v = kernel_at (entry N rows) n N h (each lambda) (each delta) in
          let x = refusal_refuses r in
          let here : refusal_of r ≡ v l = e ∙ kernel_is in
          let all : scan top v ≡ refused x.number x.level x.involution x.dart = scan_first top v l x.number x.level x.involution x.dart g c.checked (sym here ∙ x.is) in
          let same : v l ≡ scan top v = sym here ∙ x.is ∙ sym all in
          let T = level_table (entry N rows) n N h (each lambda) (each delta) in
          let late = kernel_late (level (entry N rows) n N (marks h (each lambda) (each delta)) l) n N (marks h (each lambda) (each delta) l) l in (
            x.is ∙ sym all,
            leaves ∙ sym (refusal_keeps r (check_kernel (entry N table) n N row l) (removed_from n N row table) table e) ∙ c.holds ∙ refusal_keeps r (v l) (T top) (T l) here ∙ sym (late_leaves (T top) T rows l (v l) late)
                ∙ ap (left_behind (T top) T rows) same,
          )

      pub climb_next : accepted ≡ check_kernel (entry N table) n N row l → Climbed P (l + 1) head next after
      climb_next e =
          let b = c.base in
          let passed : kernel_at (entry N rows) n N h (each lambda) (each delta) l ≡ accepted = sym (e ∙ kernel_is) in
          record {
            base = b;
            low = omega arith;
            checked = scan_more (kernel_at (entry N rows) n N h (each lambda) (each delta)) l c.checked passed;
            holds = leaves ∙ rw (← e, add-one, c.holds) (next_table (entry N rows) n N h (each lambda) (each delta) b.dimension b.darts b.valid b.allowed l c.low c.checked f row row_is passed);
            strung = c.strung;
          }
