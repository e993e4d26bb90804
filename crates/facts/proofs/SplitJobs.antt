-- Splitting a kernel makes no difference, in the words of add: two mark rows that share no dart, each accepted, are accepted together and in either order, and leave the same table. Assumes nothing.
use mathlib.Core.Path.{◌≡◌, refl, sym, ap, ◌∙◌}
use mathlib.Core.Bool.{Bool, true, false, ◌&&◌, not, true≢false}
use mathlib.Core.List.{List, [], ◌∷◌}
use Prim.Native.Nat.{ℕ, suc, ◌*◌, ◌≤◌, ◌<◌}
use native.Mathlib.Omega.{arith}
use lib.ListN.{length}
use lib.Dec.{eqb, ltb, lit<}
use borrow.Author.Tests.{eqb-true, eqb-false, eq-eqb, ltb-false, le-ltb, not-true}
use Rattle.maps.specs.Verdict.{accepted, scan}
use Rattle.maps.specs.Map.{Involutions, Valid}
use Rattle.maps.specs.Mark.{is_mark, between, has_beyond, beyond, stay}
use Rattle.maps.specs.MarkRow.{Row}
use Rattle.maps.specs.Kernel.{Kernel}
use Rattle.maps.specs.Removal.{go_on, removal}
use Rattle.maps.specs.Table.{each, listed}
use Rattle.maps.specs.Folded.{Folded, On, survives, marks, level, level_table, addΛ, addΔ, base, lambda_of, delta_of}
use Rattle.maps.specs.Pyramid.{Pyramid}
use Rattle.maps.specs.Sizes.{number1, number2, number3, number4, sizes}
use Rattle.maps.specs.Check.{at5, at6, at7, check5, check6, check7, check_map, at8, check8, at9, at10, check9, check10, check_kernel, kernel_at, check_kernels}
use Rattle.maps.specs.CheckPyramid.{left_behind}
use Rattle.maps.specs.Accepted.{Addable}
use Rattle.maps.specs.AddLevel.{at_row8, number20, add_lent, add_lambda, add_delta, add_leaves}
use Rattle.maps.specs.Split.{together}
use Rattle.maps.proofs.Small.{corners}
use Rattle.maps.proofs.Names.{every, every_at}
use Rattle.laws.proofs.Tables.{length_listed, get_or_listed, listed_same, explicit_same}
use Rattle.facts.proofs.Levels.{level_valid}
use Rattle.facts.proofs.Kernels.{removal_valid}
use Rattle.facts.proofs.Agreement.{removal_local, kernel_same}
use Rattle.facts.proofs.Adding.{Allowed, removed, never, allowed_cases}
use Rattle.facts.proofs.Facts.{Grown, grown}
use Rattle.facts.proofs.AddedJobs.{levels_same, add_pyramid}
use Rattle.facts.proofs.ExactJobs.{add_accepts, addable_accepted}
use Rattle.facts.proofs.SplitKernels.{Survivor, Split, split_level}

-- the pyramid that an accepted add leaves
abbrev pub grown_by : Folded → List ℕ → List ℕ → Folded
grown_by P row table = record { n = P.n; N = P.N; h = suc P.h; rows = P.rows; lambda = add_lambda P row table; delta = add_delta P row table }

-- the mark row of two rows
abbrev pub both_rows : Folded → List ℕ → List ℕ → List ℕ
both_rows P row₁ row₂ = listed (together P.n (each row₁) (each row₂)) P.N

-- two tests that hold of the same are equal
same_truth : (x y : Bool) → (x ≡ true → y ≡ true) → (y ≡ true → x ≡ true) → x ≡ y
same_truth true y f g = sym (f refl)
same_truth false true f g = absurd (true≢false (sym (g refl)))
same_truth false false f g = refl

-- a level added to darts of which none has a Λ above h: those of the new level are those of level h that aren't marked
module _ (n N h : ℕ) (Λ mark : ℕ → ℕ) (most : (d : ℕ) → d < N → Λ d ≤ h) where
  above : (d : ℕ) → Survivor n (On N Λ h) mark d → On N (addΛ n h Λ mark) (suc h) d
  above d o =
      let top : Λ d ≡ h = omega (arith, most d o.0.0, o.0.1) in
      (o.0.0, rw (o.1, eq-eqb (Λ d) h top) (omega arith))

  below : (d : ℕ) → On N (addΛ n h Λ mark) (suc h) d → Survivor n (On N Λ h) mark d
  below d o = go (is_mark n (mark d)) refl (eqb (Λ d) h) refl
    where
      go : (x : Bool) → is_mark n (mark d) ≡ x → (z : Bool) → eqb (Λ d) h ≡ z → Survivor n (On N Λ h) mark d
      go true q z r = let f : suc h ≤ h = rw q at o.1 in absurd (omega arith)
      go false q true r = ((o.0, omega (arith, eqb-true (Λ d) h r)), q)
      go false q false r = let f : suc h ≤ Λ d = rw (q, r) at o.1 in ((o.0, omega arith), q)

-- two rows that are each accepted and share no dart
module _ (P : Folded) (table row₁ row₂ : List ℕ) (p₁ : Addable P row₁ table) (p₂ : Addable P row₂ table)
    (apart : (d : ℕ) → d < P.N → is_mark P.n (each row₁ d) ≡ true → is_mark P.n (each row₂ d) ≡ true → ⊥) where
  open P use {n, N, h, rows, lambda, delta}

  abbrev a : Involutions
  a = base P

  abbrev Λ : ℕ → ℕ
  Λ = lambda_of P

  abbrev Δ : ℕ → ℕ
  Δ = delta_of P

  abbrev m₁ : ℕ → ℕ
  m₁ = each row₁

  abbrev m₂ : ℕ → ℕ
  m₂ = each row₂

  abbrev A : Involutions
  A = level a n N (marks h Λ Δ) h

  y : Pyramid a n N h Λ Δ
  y = p₁.before.pyramid

  v : Valid A n (On N Λ h)
  v = level_valid a n N h Λ Δ y h (omega arith)

  s : Split A n N (On N Λ h) m₁ m₂
  s = split_level a n N h Λ Δ y h (omega arith) m₁ m₂ p₁.kernel p₂.kernel (λ d o. apart d o.0)

  most : (d : ℕ) → d < N → Λ d ≤ h
  most d ld = go (allowed_cases n h (Λ d) (Δ d) (y.allowed d ld))
    where
      go : Allowed n h (Λ d) (Δ d) → Λ d ≤ h
      go (removed f m) = omega arith
      go (never e f) = omega arith

  -- ---- both rows together

  abbrev both : List ℕ
  both = both_rows P row₁ row₂

  both_at : (d : ℕ) → d < N → together n m₁ m₂ d ≡ each both d
  both_at d ld = sym (get_or_listed (together n m₁ m₂) N d 0 ld)

  both_row : Row n N h Λ (each both)
  both_row = record {
    top = λ d ld q. top d ld (rw (← (both_at d ld)) at q) (is_mark n (m₁ d)) refl;
    rest = λ d ld q. sym (both_at d ld) ∙ rest d ld (rw (← (both_at d ld)) at q) (is_mark n (m₁ d)) refl;
  }
    where
      top : (d : ℕ) → d < N → is_mark n (together n m₁ m₂ d) ≡ true → (x : Bool) → is_mark n (m₁ d) ≡ x → Λ d ≡ h
      top d ld q true e = p₁.mark_row.top d ld e
      top d ld q false e = p₂.mark_row.top d ld (rw e at q)

      rest : (d : ℕ) → d < N → is_mark n (together n m₁ m₂ d) ≡ false → (x : Bool) → is_mark n (m₁ d) ≡ x → together n m₁ m₂ d ≡ stay
      rest d ld q true e = let f : is_mark n (m₁ d) ≡ false = rw e at q in absurd (true≢false (sym e ∙ f))
      rest d ld q false e = rw e (p₂.mark_row.rest d ld (rw e at q))

  both_kernel : Kernel A n (On N Λ h) (each both)
  both_kernel = kernel_same A A n (On N Λ h) (On N Λ h) (together n m₁ m₂) (each both) v s.both (λ t d lt o. refl) (λ d o. both_at d o.0) (λ d o. o)

  pub both_addable : Addable P both table
  both_addable = record { before = p₁.before; room = p₁.room; row_length = length_listed (together n m₁ m₂) N; mark_row = both_row; kernel = both_kernel }

  -- ---- the second after the first

  abbrev P₁ : Folded
  P₁ = grown_by P row₁ table

  abbrev Λ₁ : ℕ → ℕ
  Λ₁ = lambda_of P₁

  abbrev Δ₁ : ℕ → ℕ
  Δ₁ = delta_of P₁

  e₁ : add_lent P row₁ table ≡ accepted
  e₁ = addable_accepted P table row₁ p₁

  lambda_is : (d : ℕ) → d < N → addΛ n h Λ m₁ d ≡ Λ₁ d
  unfolding add_lambda
  lambda_is d ld = rw e₁ (sym (get_or_listed (addΛ n h Λ m₁) N d 0 ld))

  delta_is : (d : ℕ) → d < N → addΔ n Δ m₁ d ≡ Δ₁ d
  unfolding add_delta
  delta_is d ld = rw e₁ (sym (get_or_listed (addΔ n Δ m₁) N d 0 ld))

  lambda_long : length (add_lambda P row₁ table) ≡ N
  unfolding add_lambda
  lambda_long = rw e₁ (length_listed (addΛ n h Λ m₁) N)

  delta_long : length (add_delta P row₁ table) ≡ N
  unfolding add_delta
  delta_long = rw e₁ (length_listed (addΔ n Δ m₁) N)

  y₁ : Pyramid a n N (suc h) Λ₁ Δ₁
  y₁ = add_pyramid P row₁ table e₁

  grown₁ : Grown a n N h Λ Δ y m₁
  grown₁ = grown a n N h Λ Δ y m₁ p₁.mark_row p₁.kernel

  abbrev A₁ : Involutions
  A₁ = level a n N (marks (suc h) Λ₁ Δ₁) (suc h)

  up : (d : ℕ) → Survivor n (On N Λ h) m₁ d → On N Λ₁ (suc h) d
  up d o = let w = above n N h Λ m₁ most d o in (w.0, rw (← (lambda_is d w.0)) w.1)

  down : (d : ℕ) → On N Λ₁ (suc h) d → Survivor n (On N Λ h) m₁ d
  down d o = below n N h Λ m₁ most d (o.0, rw (lambda_is d o.0) o.1)

  level_is : (i d : ℕ) → i ≤ n → Survivor n (On N Λ h) m₁ d → removal A n m₁ N i d ≡ A₁ i d
  level_is i d li o =
      grown₁.top i d li o.0
      ∙ levels_same a n N (suc h) (addΛ n h Λ m₁) (addΔ n Δ m₁) Λ₁ Δ₁ lambda_is delta_is grown₁.pyramid (suc h) (omega arith) i d li (above n N h Λ m₁ most d o)

  v₁ : Valid (removal A n m₁ N) n (Survivor n (On N Λ h) m₁)
  v₁ = removal_valid A n m₁ (On N Λ h) v p₁.kernel N (λ d o. o.0)

  second_kernel : Kernel A₁ n (On N Λ₁ (suc h)) m₂
  second_kernel = kernel_same (removal A n m₁ N) A₁ n (Survivor n (On N Λ h) m₁) (On N Λ₁ (suc h)) m₂ m₂ v₁ s.second_after level_is (λ d o. refl) down

  second_row : Row n N (suc h) Λ₁ m₂
  second_row = record { top = λ d ld q. sym (lambda_is d ld) ∙ top d ld q (is_mark n (m₁ d)) refl; rest = p₂.mark_row.rest }
    where
      top : (d : ℕ) → d < N → is_mark n (m₂ d) ≡ true → (x : Bool) → is_mark n (m₁ d) ≡ x → addΛ n h Λ m₁ d ≡ suc h
      top d ld q true e = absurd (apart d ld e q)
      top d ld q false e = rw (e, eq-eqb (Λ d) h (p₂.mark_row.top d ld q))

  -- where there is room for two levels
  module _ (room : suc h < 32) where
    pub second_addable : Addable P₁ row₂ table
    second_addable =
        let b = p₁.before in
        record {
          before = record { dimension = b.dimension; darts = b.darts; height = omega arith; rows_length = b.rows_length; lambda_length = lambda_long; delta_length = delta_long; table_length = b.table_length; pyramid = y₁ };
          room = room;
          row_length = p₂.row_length;
          mark_row = second_row;
          kernel = second_kernel;
        }

    abbrev Λb : ℕ → ℕ
    Λb = addΛ n h Λ (each both)

    abbrev Λ₂ : ℕ → ℕ
    Λ₂ = addΛ n (suc h) Λ₁ m₂

    most₁ : (d : ℕ) → d < N → Λ₁ d ≤ suc h
    most₁ d ld = go (allowed_cases n (suc h) (Λ₁ d) (Δ₁ d) (y₁.allowed d ld))
      where
        go : Allowed n (suc h) (Λ₁ d) (Δ₁ d) → Λ₁ d ≤ suc h
        go (removed f m) = omega arith
        go (never e f) = omega arith

    -- the darts that neither row marks
    abbrev Left : ℕ → Type 0
    Left d = Survivor n (On N Λ h) m₁ d × (is_mark n (m₂ d) ≡ false)

    neither : (d : ℕ) → d < N → is_mark n (each both d) ≡ false → (x : Bool) → is_mark n (m₁ d) ≡ x → (is_mark n (m₁ d) ≡ false) × (is_mark n (m₂ d) ≡ false)
    neither d ld q true e = let f : is_mark n (m₁ d) ≡ false = rw (← (both_at d ld), e) at q in absurd (true≢false (sym e ∙ f))
    neither d ld q false e = (e, rw (← (both_at d ld), e) at q)

    left_both : (d : ℕ) → On N Λb (suc h) d → Left d
    left_both d o = let w = below n N h Λ (each both) most d o in let z = neither d o.0 w.1 (is_mark n (m₁ d)) refl in ((w.0, z.0), z.1)

    both_left : (d : ℕ) → Left d → On N Λb (suc h) d
    both_left d o = above n N h Λ (each both) most d (o.0.0, rw (← (both_at d o.0.0.0), o.0.1) o.1)

    left_two : (d : ℕ) → On N Λ₂ (suc (suc h)) d → Left d
    left_two d o = let w = below n N (suc h) Λ₁ m₂ most₁ d o in (down d w.0, w.1)

    two_left : (d : ℕ) → Left d → On N Λ₂ (suc (suc h)) d
    two_left d o = above n N (suc h) Λ₁ m₂ most₁ d (up d o.0, o.1)

    -- on a level is what survives
    on_is : (Λ : ℕ → ℕ) (l d : ℕ) → d < N → survives Λ l d ≡ true → On N Λ l d
    on_is Λ l d ld q = (ld, ltb-false (Λ d) l (not-true (ltb (Λ d) l) q))

    is_on : (Λ : ℕ → ℕ) (l d : ℕ) → On N Λ l d → survives Λ l d ≡ true
    is_on Λ l d o = rw (le-ltb (Λ d) l o.1)

    grown_both : Grown a n N h Λ Δ y (each both)
    grown_both = grown a n N h Λ Δ y (each both) both_row both_kernel

    grown₂ : Grown a n N (suc h) Λ₁ Δ₁ y₁ m₂
    grown₂ = grown a n N (suc h) Λ₁ Δ₁ y₁ m₂ second_row second_kernel

    entries : (i d : ℕ) → i ≤ n → Left d → level a n N (marks (suc h) Λb (addΔ n Δ (each both))) (suc h) i d ≡ level a n N (marks (suc (suc h)) Λ₂ (addΔ n Δ₁ m₂)) (suc (suc h)) i d
    entries i d li o =
        sym (grown_both.top i d li o.0.0)
        ∙ sym (removal_local A A n (On N Λ h) (together n m₁ m₂) (each both) v s.both (λ t x lt p q. refl) (λ x p. both_at x p.0) N i d li o.0.0 refl)
        ∙ sym (s.one_two i d li o.0.0 o.0.1 o.1)
        ∙ removal_local (removal A n m₁ N) A₁ n (Survivor n (On N Λ h) m₁) m₂ m₂ v₁ s.second_after (λ t x lt p q. level_is t x lt p) (λ x p. refl) N i d li o.0 (level_is i d li o.0)
        ∙ grown₂.top i d li (up d o.0)

    tables : level_table a n N (suc h) Λb (addΔ n Δ (each both)) (suc h) ≡ level_table a n N (suc (suc h)) Λ₂ (addΔ n Δ₁ m₂) (suc (suc h))
    tables =
        explicit_same (level a n N (marks (suc h) Λb (addΔ n Δ (each both))) (suc h)) (level a n N (marks (suc (suc h)) Λ₂ (addΔ n Δ₁ m₂)) (suc (suc h))) n N (survives Λb (suc h)) (survives Λ₂ (suc (suc h)))
        (λ d ld. same_truth (survives Λb (suc h) d) (survives Λ₂ (suc (suc h)) d)
        (λ q. is_on Λ₂ (suc (suc h)) d (two_left d (left_both d (on_is Λb (suc h) d ld q))))
        (λ q. is_on Λb (suc h) d (both_left d (left_two d (on_is Λ₂ (suc (suc h)) d ld q)))))
        (λ i d li ld q. entries i d li (left_two d (on_is Λ₂ (suc (suc h)) d ld q)))

    -- both together leave what the second leaves after the first
    pub same_leaves : add_leaves P both table ≡ add_leaves P₁ row₂ table
    unfolding add_leaves left_behind
    same_leaves = rw (addable_accepted P table both both_addable, addable_accepted P₁ table row₂ second_addable) tables

-- Two mark rows that share no dart, each accepted, are accepted together and one after the other, in either order, and leave the same table.
pub record SplitAdd (P : Folded) (table row₁ row₂ : List ℕ) : Type 0 where
  pub together_accepted : add_lent P (both_rows P row₁ row₂) table ≡ accepted
  pub second_accepted : add_lent (grown_by P row₁ table) row₂ table ≡ accepted
  pub first_accepted : add_lent (grown_by P row₂ table) row₁ table ≡ accepted
  pub second_leaves : add_leaves (grown_by P row₁ table) row₂ table ≡ add_leaves P (both_rows P row₁ row₂) table
  pub first_leaves : add_leaves (grown_by P row₂ table) row₁ table ≡ add_leaves P (both_rows P row₁ row₂) table

pub split_add : (P : Folded) (table row₁ row₂ : List ℕ) → add_lent P row₁ table ≡ accepted → add_lent P row₂ table ≡ accepted
    → ((d : ℕ) → d < P.N → is_mark P.n (each row₁ d) ≡ true → is_mark P.n (each row₂ d) ≡ true → ⊥) → suc P.h < 32 → SplitAdd P table row₁ row₂
split_add P table row₁ row₂ e₁ e₂ apart room = record {
  together_accepted = addable_accepted P table (both_rows P row₁ row₂) (both_addable P table row₁ row₂ p₁ p₂ apart);
  second_accepted = addable_accepted (grown_by P row₁ table) table row₂ (second_addable P table row₁ row₂ p₁ p₂ apart room);
  first_accepted = addable_accepted (grown_by P row₂ table) table row₁ (second_addable P table row₂ row₁ p₂ p₁ other room);
  second_leaves = sym (same_leaves P table row₁ row₂ p₁ p₂ apart room);
  first_leaves = sym (same_leaves P table row₂ row₁ p₂ p₁ other room) ∙ ap (λ (row : List ℕ). add_leaves P row table) same_row;
}
  where
    p₁ : Addable P row₁ table
    p₁ = add_accepts P table row₁ e₁

    p₂ : Addable P row₂ table
    p₂ = add_accepts P table row₂ e₂

    other : (d : ℕ) → d < P.N → is_mark P.n (each row₂ d) ≡ true → is_mark P.n (each row₁ d) ≡ true → ⊥
    other d ld q r = apart d ld r q

    -- the row of both is one, whichever comes first
    turned : (d : ℕ) → d < P.N → (x : Bool) → is_mark P.n (each row₁ d) ≡ x → (z : Bool) → is_mark P.n (each row₂ d) ≡ z → together P.n (each row₂) (each row₁) d ≡ together P.n (each row₁) (each row₂) d
    turned d ld true q true r = absurd (apart d ld q r)
    turned d ld true q false r = rw (q, r)
    turned d ld false q true r = rw (q, r)
    turned d ld false q false r = rw (q, r) (p₁.mark_row.rest d ld q ∙ sym (p₂.mark_row.rest d ld r))

    same_row : both_rows P row₂ row₁ ≡ both_rows P row₁ row₂
    same_row = listed_same (together P.n (each row₂) (each row₁)) (together P.n (each row₁) (each row₂)) P.N (λ d ld. turned d ld (is_mark P.n (each row₁ d)) refl (is_mark P.n (each row₂ d)) refl)

-- the square, and its corners {1,2} and {3,4} as two mark rows
abbrev pub plain_square : Folded
plain_square = record { n = 1; N = 8; h = 0; rows = corners.rows; lambda = 0 ∷ 0 ∷ 0 ∷ 0 ∷ 0 ∷ 0 ∷ 0 ∷ 0 ∷ []; delta = 1 ∷ 1 ∷ 1 ∷ 1 ∷ 1 ∷ 1 ∷ 1 ∷ 1 ∷ [] }

abbrev pub one_corner : List ℕ
one_corner = 255 ∷ 0 ∷ 0 ∷ 255 ∷ 255 ∷ 255 ∷ 255 ∷ 255 ∷ []

abbrev pub next_corner : List ℕ
next_corner = 255 ∷ 255 ∷ 255 ∷ 0 ∷ 0 ∷ 255 ∷ 255 ∷ 255 ∷ []

corners_apart : every (λ d. not (is_mark 1 (each one_corner d) && is_mark 1 (each next_corner d))) 8 ≡ true
unfolding is_mark every
corners_apart = refl

pub corners_split : SplitAdd plain_square corners.rows one_corner next_corner
unfolding is_mark between has_beyond beyond scan go_on removal level number1 number2 number3 number4 sizes at5 at6 at7 check5 check6 check7 check_map at8 check8 at9 at10 check9 check10 check_kernel kernel_at check_kernels at_row8 number20 add_lent
corners_split =
    split_add plain_square corners.rows one_corner next_corner refl refl
    (λ d ld q r. true≢false (sym (rw (q, r) at (every_at (λ d. not (is_mark 1 (each one_corner d) && is_mark 1 (each next_corner d))) 8 corners_apart d ld))))
    (lit< tt)
