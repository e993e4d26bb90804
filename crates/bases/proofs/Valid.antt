-- A map of which the pass says yes is accepted. Assumes nothing.
use mathlib.Core.Path.{◌≡◌, refl, sym, subst}
use mathlib.Core.Bool.{Bool, true, false}
use mathlib.Core.List.{List}
use Prim.Native.Nat.{ℕ, ◌≤◌, ◌<◌}
use native.Mathlib.Omega.{arith}
use borrow.Author.Tests.{lt-ltb, eqb-true, eq-eqb, not-false}
use Rattle.maps.specs.Verdict.{accepted}
use Rattle.maps.specs.Table.{entry}
use Rattle.maps.specs.Explicit.{present}
use Rattle.maps.specs.Check.{check_map}
use Rattle.laws.proofs.Verdicts.{and_false}
use Rattle.answers.specs.Rows.{Rows}
use Rattle.bases.specs.InTable.{present_if, strays_in, check5_in, check_map_in}
use Rattle.bases.specs.Valid.{AllLed, AllValid, AllKept}
use Rattle.bases.proofs.Places.{strays_none, not_twice_none, none7}

-- where 5 is not refused, and neither 6 nor 7 is due at a row of a dart present, the map is accepted
pub all_valid : (explicit : Bool) (n N : ℕ) (table : List ℕ) → check5_in explicit n N table ≡ accepted → AllValid explicit n N table → check_map_in explicit n N table ≡ accepted
unfolding check_map
all_valid explicit n N table e h =
    rw
    (e, not_twice_none explicit n N table (λ i li d ld. and_false (present_if explicit N table d) _ (λ p. (h d ld p i (omega arith)).twice)))
    (none7 explicit n N table (λ i li j lj d ld. and_false (present_if explicit N table d) _ (λ p. (h d ld p i (omega arith)).commuting j (omega arith))))

-- an explicit level whose entries are kept, and 6 is due nowhere
module _ (n N : ℕ) (table : List ℕ) (r : Rows n N table) (kept : AllKept n N table) (valid : AllValid true n N table) where
  -- a dart that leads back to a dart is present
  back_present : (i d e : ℕ) → i ≤ n → d < N → e < N → entry N table i e ≡ d → present N table e ≡ true
  back_present i d e li ld le back = go (present N table e) refl
    where
      go : (b : Bool) → present N table e ≡ b → present N table e ≡ true
      go true q = q
      go false q = absurd (omega (arith, (kept i li e le).empty q, back, r.darts))

  stray_none : (i d : ℕ) → i ≤ n → d < N → (b : Bool) → present N table d ≡ b → strays_in true N table i d ≡ false
  stray_none i d li ld true p =
      let l = (kept i li d ld).leads p in
      let back = eqb-true _ _ (not-false _ (valid d ld p i li).twice) in
      rw (p, lt-ltb (entry N table i d) N l, back_present i d (entry N table i d) li ld l back)
  stray_none i d li ld false p = rw (p, eq-eqb (entry N table i d) 65535 ((kept i li d ld).empty p))

  -- 5 is not refused
  pub kept_none : check5_in true n N table ≡ accepted
  kept_none = strays_none true n N table (λ i li d ld. stray_none i d (omega arith) ld (present N table d) refl)

-- what is known of n is known of a number m that it is; what is known of m, of n
module _ (explicit : Bool) (N : ℕ) (table : List ℕ) {n m : ℕ} (e : n ≡ m) where
  pub led_of : Rows n N table × AllLed explicit n N table → Rows m N table × AllLed explicit m N table
  led_of = subst (λ (k : ℕ). Rows k N table × AllLed explicit k N table) e

  pub valid_of : AllValid explicit m N table → AllValid explicit n N table
  valid_of = subst (λ (k : ℕ). AllValid explicit k N table) (sym e)
