-- The counts summed along the links by which a removal goes on. Assumes nothing.
use mathlib.Core.Path.{◌≡◌, refl, sym, ◌∙◌}
use mathlib.Core.Bool.{Bool, true, false, ◌&&◌}
use mathlib.Core.List.{List}
use Prim.Native.Nat.{ℕ, suc, ◌+◌, ◌-◌, ◌*◌, ◌≤◌, ◌<◌}
use native.Mathlib.Omega.{arith}
use lib.Dec.{eqb}
use borrow.Author.Tests.{eq-eqb, eqb-true}
use Rattle.maps.specs.Mark.{is_mark, stay, between}
use Rattle.maps.specs.Removal.{marked}
use Rattle.maps.specs.Table.{entry, each}
use Rattle.maps.specs.UnfoldAll.{counts_from}
use Rattle.laws.proofs.Verdicts.{and_both}
use Rattle.laws.proofs.Marks.{mark_byte, mark_rows}
use Rattle.kernels.specs.Strings.{kernel_row, Marks}
use Rattle.kernels.specs.Ready.{Followed}
use Rattle.kernels.proofs.Strung.{in_kernel_lem, mark_is}
use Rattle.carrying.proofs.Local.{counts_stay, counts_on_lem}

-- a way by row i from start stands after so many turns at dart e of kernel l, with so much summed
pub record Summing (N l : ℕ) (lambda delta block reads : List ℕ) (i start sum turns e : ℕ) : Type 0 where
  pub dart : e < N
  pub removed : eqb (each lambda e) l ≡ true
  pub first_row : (between (each delta e)).0 ≡ i
  pub fits : turns ≤ N
  pub small : sum ≤ 131072 * turns
  pub rest : (n : ℕ) → Marks n N l lambda delta → Followed n N (kernel_row lambda delta l) block → i ≤ n
      → sum + counts_from (entry N block) n (kernel_row lambda delta l) (entry N reads) (N - turns) i e ≡ counts_from (entry N block) n (kernel_row lambda delta l) (entry N reads) N i start

module _ {n N l : ℕ} {lambda delta block : List ℕ} (k : Marks n N l lambda delta) (w : Followed n N (kernel_row lambda delta l) block) where
  abbrev row : ℕ → ℕ
  row = kernel_row lambda delta l

  -- a dart of the kernel, with its mark
  module _ {e : ℕ} (le : e < N) (q : eqb (each lambda e) l ≡ true) where
    pub sum_here : is_mark n (row e) ≡ true
    sum_here = sym (in_kernel_lem k w.shape.dimension e le) ∙ q

    pub sum_mark : each delta e ≡ row e
    sum_mark = mark_is k w.shape.dimension e le sum_here

    pub sum_byte : each delta e < stay
    sum_byte = let z = w.shape.dimension in mark_byte n (each delta e) (omega arith) (rw sum_mark sum_here)

    module _ {i s : ℕ} (li : i ≤ n) (is : s ≡ (between (each delta e)).1) where
      pub sum_second : s ≤ n
      sum_second = rw (is, sum_mark) (mark_rows n (row e) sum_here).second

      -- by the second row to y, and on by row i
      module _ {y : ℕ} (iy : y ≡ entry N block s e) where
        pub sum_met : y < N
        sum_met = rw iy (w.inside s e sum_second le sum_here)

        pub sum_end : entry N block i y < N
        sum_end =
            let same : row y ≡ row e = rw (iy, is, sum_mark) (w.whole e le sum_here) in
            w.inside i y li sum_met (rw same sum_here)

        sum_step : (reads : List ℕ) (times : ℕ) → 0 < times → (between (each delta e)).0 ≡ i
            → counts_from (entry N block) n row (entry N reads) times i e ≡ entry N reads s e + (entry N reads i y + counts_from (entry N block) n row (entry N reads) (times - 1) i (entry N block i y))
        sum_step reads times lt f =
            let m : marked (entry N block) n row i e ≡ true = rw (sum_here, ← sum_mark, eq-eqb (between (each delta e)).0 i f) in
            let t : suc (times - 1) ≡ times = omega arith in
            let s-is : (between (row e)).1 ≡ s = rw (is, sum_mark) in
            let c = rw (t, s-is, ← iy) at (counts_on_lem (entry N block) n row (entry N reads) i e (times - 1) m) in
            c

  -- where the way ends
  sum_stays : (reads : List ℕ) (times i e : ℕ) → e < N → (eqb (each lambda e) l && eqb (between (each delta e)).0 i) ≡ false → counts_from (entry N block) n row (entry N reads) times i e ≡ 0
  sum_stays reads times i e le q = counts_stay (entry N block) n row (entry N reads) i e times (go (eqb (each lambda e) l) refl)
    where
      go : (x : Bool) → eqb (each lambda e) l ≡ x → marked (entry N block) n row i e ≡ false
      go false p = rw (sym (in_kernel_lem k w.shape.dimension e le) ∙ p)
      go true p = rw (sum_here le p, ← (sum_mark le p)) (rw p at q)

-- the next turn: by the second row to y, and by row i to z
module _ {N l : ℕ} {lambda delta block reads : List ℕ} {i start sum turns e s y x₁ x₂ z : ℕ} (v : Summing N l lambda delta block reads i start sum turns e)
    (more : turns < N) (is : s ≡ (between (each delta e)).1) (iy : y ≡ entry N block s e) (i₁ : x₁ ≡ entry N reads s e) (i₂ : x₂ ≡ entry N reads i y) (iz : z ≡ entry N block i y) where
  turned : (n : ℕ) → Marks n N l lambda delta → Followed n N (kernel_row lambda delta l) block → i ≤ n
      → sum + x₁ + x₂ + counts_from (entry N block) n (kernel_row lambda delta l) (entry N reads) (N - (turns + 1)) i z ≡ counts_from (entry N block) n (kernel_row lambda delta l) (entry N reads) N i start
  turned n k w li =
      let less : N - turns - 1 ≡ N - (turns + 1) = omega arith in
      let c = rw (less, ← iz) at (sum_step k w v.dart v.removed li is iy reads (N - turns) (omega arith) v.first_row) in
      omega (arith, v.rest n k w li, c)

  module _ {n : ℕ} (k : Marks n N l lambda delta) (w : Followed n N (kernel_row lambda delta l) block) (li : i ≤ n) where
    sum_dart : z < N
    sum_dart = rw iz (sum_end k w v.dart v.removed li is iy)

    -- the way ends at z
    pub sum_ends : (eqb (each lambda z) l && eqb (between (each delta z)).0 i) ≡ false → sum + x₁ + x₂ ≡ counts_from (entry N block) n (kernel_row lambda delta l) (entry N reads) N i start
    sum_ends q = omega (arith, turned n k w li, sum_stays k w reads (N - (turns + 1)) i z sum_dart q)

    -- or goes on there
    pub sum_on : (eqb (each lambda z) l && eqb (between (each delta z)).0 i) ≡ true → x₁ < 65536 → x₂ < 65536 → Summing N l lambda delta block reads i start (sum + x₁ + x₂) (turns + 1) z
    sum_on q l₁ l₂ =
        let b = and_both _ _ q in
        record { dart = sum_dart; removed = b.0; first_row = eqb-true (between (each delta z)).0 i b.1; fits = omega arith; small = omega (arith, v.small); rest = turned }
