-- On an accepted level the marked row is a kernel: whole cells, removable, and add accepts it. Assumes nothing.
use mathlib.Core.Path.{◌≡◌, sym, ap, ◌∙◌}
use mathlib.Core.Logic.{inl, inr}
use mathlib.Core.Bool.{true, false, true≢false}
use mathlib.Core.List.{List}
use Prim.Native.Nat.{ℕ, suc, ◌+◌, ◌*◌, ◌<◌}
use native.Mathlib.Omega.{arith}
use lib.ListN.{length}
use borrow.Author.Tests.{ltb-true, le-ltb}
use Rattle.maps.specs.Verdict.{accepted}
use Rattle.maps.specs.Cell.{Cell, itself, onward}
use Rattle.maps.specs.Mark.{is_mark, contracts}
use Rattle.maps.specs.Kernel.{Kernel}
use Rattle.maps.specs.Table.{entry, each}
use Rattle.maps.specs.Check.{check_kernel}
use Rattle.maps.specs.Explicit.{present, There}
use Rattle.maps.specs.Folded.{Folded}
use Rattle.maps.specs.CheckPyramid.{check_lent, check_leaves, table_at}
use Rattle.maps.specs.AddLevel.{add_lent}
use Rattle.maps.specs.MarkCells.{Marked, CellsMarked, mark_lent, MarkLeaves}
use Rattle.laws.proofs.Marks.{is_removal, stay_none, removed_rows}
use Rattle.facts.proofs.Commuting.{commutes_kernel}
use Rattle.facts.proofs.Checks.{sound_kernel}
use Rattle.facts.proofs.AcceptedJobs.{accepted_table}
use Rattle.facts.proofs.ExactJobs.{top_row_added}
use Rattle.orbits.specs.Explicit.{ExplicitLevel}
use Rattle.orbits.proofs.Explicit.{level_valid}
use Rattle.cells.proofs.Parts.{marked_along}
use Rattle.cells.proofs.Lent.{accepted_level}

module _ (n N : ℕ) (table : List ℕ) (δ : ℕ) (out : List ℕ) (marked : CellsMarked n N table δ out) where
  -- nothing that is to be marked is left out
  pub marked_all : (d : ℕ) → d < N → present N table d ≡ true → Marked (entry N table) n δ d → each out d ≡ δ
  marked_all d ld p ok = elim (marked.mark d ld) [ inl w ↦ w.2 | inr w ↦ absurd (w.0 (p, ok)) ]

  module _ (level : ExplicitLevel n N table) (below : δ < n) where
    -- and nothing else is marked
    pub marked_only : (d : ℕ) → d < N → is_mark n (each out d) ≡ true → (present N table d ≡ true) × Marked (entry N table) n δ d × (each out d ≡ δ)
    marked_only d ld q = elim (marked.mark d ld) [ inl w ↦ w | inr w ↦ absurd (true≢false (sym q ∙ ap (is_mark n) w.1 ∙ stay_none n (omega (arith, level.rows.dimension)))) ]

    -- a dimension below n, and n is at most 4, so the mark is that of a removal
    removes : (d : ℕ) → each out d ≡ δ → contracts (each out d) ≡ false
    removes d e = le-ltb 8 (each out d) (omega (arith, level.rows.dimension))

    pub marked_kernel : Kernel (entry N table) n (There N (present N table)) (each out)
    marked_kernel =
        let v = level_valid n N table level in
        commutes_kernel (entry N table) n (There N (present N table)) (each out) v.inside
        (λ d j p q lj ne.
        let w = marked_only d p.0 q in
        let there = v.inside j d lj p in
        let next : Cell (entry N table) n δ d (entry N table j d) = onward d j itself lj (λ e. ne (e ∙ sym (ap (λ (x : ℕ × ℕ). x.0) (removed_rows n (each out d) (removes d w.2)).0 ∙ w.2))) in
        marked_all (entry N table j d) there.0 there.1 (marked_along (entry N table) n δ (There N (present N table)) v below d (entry N table j d) p next w.1) ∙ sym w.2)
        (λ d p q h.
        let w = marked_only d p.0 q in
        let r = removed_rows n (each out d) (removes d w.2) in
        let l = ltb-true (each out d + 1) n (sym r.1 ∙ h) in
        rw (r.0, r.2, w.2) (w.1.0.removable (omega (arith, w.2)) d itself))

    -- so the check of a kernel accepts it, at any level
    pub marked_accepted : (l : ℕ) → check_kernel (entry N table) n N (each out) l ≡ accepted
    marked_accepted l =
        let v = level_valid n N table level in
        sound_kernel (entry N table) n N (each out) l (There N (present N table)) v (λ d p. p.0) (λ d ld q. (ld, (marked_only d ld q).0)) marked_kernel

-- what the job leaves where it accepts is a kernel, and is accepted as one
pub job_kernel : (n N : ℕ) (table : List ℕ) (δ : ℕ) (found out : List ℕ) → mark_lent n N table δ found ≡ accepted → MarkLeaves n N table δ found (mark_lent n N table δ found) out
    → Kernel (entry N table) n (There N (present N table)) (each out) × ((l : ℕ) → check_kernel (entry N table) n N (each out) l ≡ accepted)
job_kernel n N table δ found out e left =
    let marked : CellsMarked n N table δ out = rw e at left in
    let level = (accepted_level n N table δ found e).0 in
    let below = (accepted_level n N table δ found e).1 in
    (marked_kernel n N table δ out marked level below, marked_accepted n N table δ out marked level below)

module _ (P : Folded) (table : List ℕ) where
  open P use {n, N, h}

  -- what marking marks on the table that check left, add accepts, with any lent table of the exact length
  pub marked_added : check_lent P table ≡ accepted → h < 32 → (δ : ℕ) (found out table' : List ℕ)
      → mark_lent n N (check_leaves P table) δ found ≡ accepted → MarkLeaves n N (check_leaves P table) δ found (mark_lent n N (check_leaves P table) δ found) out
      → length table' ≡ suc n * N → add_lent P out table' ≡ accepted
  marked_added c room δ found out table' e left as_long =
      let T = table_at P h in
      let t = accepted_table P table c in
      let e' : mark_lent n N T δ found ≡ accepted = rw t at e in
      let marked : CellsMarked n N T δ out = rw (t, e') at left in
      let level = (accepted_level n N T δ found e').0 in
      let below = (accepted_level n N T δ found e').1 in
      top_row_added P table c out table' as_long room marked.long (λ d ld q. (marked_only n N T δ out marked level below d ld q).0)
      (λ d ld q. elim (marked.mark d ld) [ inl w ↦ absurd (true≢false (sym (ap (is_mark n) w.2 ∙ is_removal n δ below) ∙ q)) | inr w ↦ w.1 ])
      (marked_accepted n N T δ out marked level below h)
