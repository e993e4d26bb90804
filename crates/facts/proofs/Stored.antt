-- A valid map stored as an explicit table: the table's entries are the map's, its checks and removals are those of the map. Assumes nothing.
use mathlib.Core.Path.{◌≡◌, refl, sym, ◌∙◌}
use mathlib.Core.Bool.{Bool, true, false, ◌&&◌, not}
use mathlib.Core.List.{List}
use Prim.Native.Nat.{ℕ, suc, ◌≤◌, ◌<◌}
use native.Mathlib.Omega.{arith}
use borrow.Author.Tests.{ne_eqb, eq-eqb}
use Rattle.maps.specs.Verdict.{refused, when, scan}
use Rattle.maps.specs.Map.{Involutions, Valid}
use Rattle.maps.specs.Mark.{is_mark, between, has_beyond, beyond}
use Rattle.maps.specs.Kernel.{Kernel}
use Rattle.maps.specs.Removal.{removal}
use Rattle.maps.specs.Table.{entry, absent, explicit}
use Rattle.maps.specs.Check.{leaves, not_fitting, at9, at10, check9, check10, check_kernel}
use Rattle.maps.specs.Explicit.{present, There, Sound}
use Rattle.laws.proofs.Verdicts.{scan_same, and_both}
use Rattle.laws.proofs.Tables.{entry_explicit, explicit_same}
use Rattle.laws.proofs.Marks.{mark_rows, beyond_row}
use Rattle.facts.proofs.Agreement.{removal_local, valid_same}

-- a map a on the darts d < N with `on d`
module _ (a : Involutions) (n N : ℕ) (on : ℕ → Bool) (few : N ≤ absent) (v : Valid a n (There N on)) where
  abbrev T : List ℕ
  T = explicit a n N on

  pub stored : (i d : ℕ) → i ≤ n → There N on d → a i d ≡ entry N T i d
  stored i d li o = sym (entry_explicit a n N on i d li o.0 ∙ rw o.1)

  pub stored_absent : (i d : ℕ) → i ≤ n → d < N → on d ≡ false → entry N T i d ≡ absent
  stored_absent i d li ld q = entry_explicit a n N on i d li ld ∙ rw q

  -- a dart is present in the table where it is on the level
  pub stored_present : (d : ℕ) → d < N → present N T d ≡ on d
  stored_present d ld = go (on d) refl
    where
      go : (x : Bool) → on d ≡ x → present N T d ≡ x
      go true q =
          let w = v.inside 0 d (omega arith) (ld, q) in
          let e : entry N T 0 d ≡ a 0 d = sym (stored 0 d (omega arith) (ld, q)) in
          rw (ne_eqb (entry N T 0 d) absent (λ z. omega (arith, w.0)))
      go false q = rw (eq-eqb (entry N T 0 d) absent (stored_absent 0 d (omega arith) ld q))

  to_there : (d : ℕ) → There N (present N T) d → There N on d
  to_there d p = (p.0, sym (stored_present d p.0) ∙ p.1)

  from_there : (d : ℕ) → There N on d → There N (present N T) d
  from_there d p = (p.0, stored_present d p.0 ∙ p.1)

  pub stored_sound : Sound (entry N T) n N (present N T)
  stored_sound =
      let w = valid_same a (entry N T) n (There N on) stored v in
      record {
        valid = record {
          inside = λ i d li p. from_there (entry N T i d) (w.inside i d li (to_there d p));
          twice = λ i d li p. w.twice i d li (to_there d p);
          commute = λ i j d f lj p. w.commute i j d f lj (to_there d p);
        };
        empty = λ i d li ld q. stored_absent i d li ld (sym (stored_present d ld) ∙ q);
      }

  -- marks of darts of the level alone, and a row that holds them
  module _ (mark row : ℕ → ℕ) (same : (d : ℕ) → d < N → mark d ≡ row d) (marked : (d : ℕ) → d < N → is_mark n (mark d) ≡ true → on d ≡ true) where
    at9_same : (l d j : ℕ) → d < N → j ≤ n → at9 (entry N T) n row l d j ≡ at9 a n mark l d j
    unfolding at9
    at9_same l d j ld lj = go (is_mark n (mark d)) refl
      where
        go : (x : Bool) → is_mark n (mark d) ≡ x → when (leaves (entry N T) n row d j) (refused 9 l j d) ≡ when (leaves a n mark d j) (refused 9 l j d)
        go true q =
            let o : There N on d = (ld, marked d ld q) in
            rw (← (same d ld), q, ← (stored j d lj o), ← (same (a j d) (v.inside j d lj o).0))
        go false q = rw (← (same d ld), q)

    at10_same : (l d : ℕ) → d < N → at10 (entry N T) n row l d ≡ at10 a n mark l d
    unfolding at10
    at10_same l d ld = go (is_mark n (mark d)) refl (has_beyond n (mark d)) refl
      where
        go : (x : Bool) → is_mark n (mark d) ≡ x → (y : Bool) → has_beyond n (mark d) ≡ y → when (not_fitting (entry N T) n row d) (refused 10 l (between (row d)).1 d) ≡ when (not_fitting a n mark d) (refused 10 l (between (mark d)).1 d)
        go false q y r = rw (← (same d ld), q)
        go true q false r = rw (← (same d ld), q, r)
        go true q true r =
            let i = (between (mark d)).1 in
            let j = beyond (mark d) in
            let o : There N on d = (ld, marked d ld q) in
            let li : i ≤ n = (mark_rows n (mark d) q).second in
            let lj : j ≤ n = (beyond_row n (mark d) q r).0 in
            rw (← (same d ld), q, r, ← (stored i d li o), ← (stored j d lj o), ← (stored j (a i d) lj (v.inside i d li o)), ← (stored i (a j d) li (v.inside j d lj o)))

    pub stored_check : (l : ℕ) → check_kernel (entry N T) n N row l ≡ check_kernel a n N mark l
    unfolding check9 check10 check_kernel
    stored_check l =
        rw (
          scan_same N (λ d. scan (suc n) (at9 (entry N T) n row l d)) (λ d. scan (suc n) (at9 a n mark l d)) (λ d ld. scan_same (suc n) (at9 (entry N T) n row l d) (at9 a n mark l d) (λ j lj. at9_same l d j ld (omega arith))),
          scan_same N (at10 (entry N T) n row l) (at10 a n mark l) (λ d ld. at10_same l d ld),
        )

    -- the removal of a kernel, stored: its survivors are those of the level that are not marked
    pub stored_removal : Kernel a n (There N on) mark → (next : ℕ → Bool) → ((d : ℕ) → d < N → (on d && not (is_mark n (mark d))) ≡ next d)
        → explicit (removal (entry N T) n row N) n N (λ d. present N T d && not (is_mark n (row d))) ≡ explicit (removal a n mark N) n N next
    stored_removal k next left =
        explicit_same (removal (entry N T) n row N) (removal a n mark N) n N (λ d. present N T d && not (is_mark n (row d))) next
        (λ d ld. rw (stored_present d ld, ← (same d ld)) (left d ld))
        (λ i d li ld q.
        let o : There N on d = (ld, (and_both (on d) (not (is_mark n (mark d))) (left d ld ∙ q)).0) in
        sym (removal_local a (entry N T) n (There N on) mark row v k (λ t e lt p r. stored t e lt p) (λ e p. same e p.0) N i d li o (stored i d li o)))
