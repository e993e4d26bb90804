-- A kernel in the document's words is one that walks can pass, and its removal is the map without it. Assumes nothing.
use mathlib.Core.Path.{◌≡◌, refl, sym, ◌∙◌, fun_ext}
use mathlib.Core.Bool.{Bool, true, false}
use Prim.Native.Nat.{ℕ, zero, suc, ◌<◌}
use lib.Dec.{eqb}
use Rattle.maps.specs.Map.{Involutions, Valid}
use Rattle.maps.specs.Mark.{is_mark, contracts, between}
use Rattle.maps.specs.Kernel.{Kernel}
use Rattle.maps.specs.Removal.{go_on, removal}
use Rattle.facts.proofs.Removals.{Passing, along, without, without_valid}
use Rattle.facts.proofs.ByKind.{KernelOf, passing_of}
use Rattle.laws.proofs.Marks.{onto, removed_rows, contracted_rows, mark_range, second_row}

-- `dim d` and `via d` are the rows between which the mark of d lets a walk pass
module _ (a : Involutions) (n : ℕ) (mark dim via : ℕ → ℕ) (rows : (d : ℕ) → is_mark n (mark d) ≡ true → (dim d ≡ (between (mark d)).0) × (via d ≡ (between (mark d)).1)) where
  abbrev removed : ℕ → Bool
  removed d = is_mark n (mark d)

  go_on_along : (k i d : ℕ) → go_on a n mark k i d ≡ along a dim via removed k i d
  unfolding go_on along
  go_on_along zero i d = refl
  go_on_along (suc k) i d = go (removed d) refl (eqb (dim d) i) refl (λ e. go_on_along k i e)
    where
      go : (x : Bool) → removed d ≡ x → (y : Bool) → eqb (dim d) i ≡ y → ((e : ℕ) → go_on a n mark k i e ≡ along a dim via removed k i e) → go_on a n mark (suc k) i d ≡ along a dim via removed (suc k) i d
      go false q y r ih = rw (q, go_on, along)
      go true q false r ih = rw (q, ← (rows d q).0, r, go_on, along)
      go true q true r ih = rw (q, ← (rows d q).0, r, go_on, along, ← (rows d q).1) (ih (a i (a (via d) d)))

  pub removal_without : (N i b : ℕ) → removal a n mark N i b ≡ without a dim via removed N i b
  unfolding removal without
  removal_without N i b = go_on_along N i (a i b)

  module _ (present : ℕ → Type 0) (m : Valid a n present) (k : Kernel a n present mark) where
    -- by kind and dimension
    kernel_of_lem : KernelOf a n present removed (λ d. contracts (mark d)) (λ d. (between (mark d)).0)
    kernel_of_lem = record {
      range = λ d p q. mark_range n (mark d) q;
      whole = λ d j p q lj ne. let w = k.whole d j p q lj ne in rw w (q, refl, refl);
      removable = λ d p q e. rw (removed_rows n (mark d) e).0 (k.removable d p q e);
      contractible = λ d p q e. rw (contracted_rows n (mark d) e).0 (k.contractible d p q e);
    }

    pub passing : Passing a n present dim via removed
    passing =
        let r = passing_of a n present m removed (λ d. contracts (mark d)) (λ d. (between (mark d)).0) kernel_of_lem in
        let other : (d : ℕ) → removed d ≡ true → via d ≡ onto (contracts (mark d)) (between (mark d)).0 = λ d q. (rows d q).1 ∙ second_row (mark d) in
        record {
          low = λ d p q. rw (rows d q).0 (r.low d p q);
          high = λ d p q. rw (other d q) (r.high d p q);
          two = λ d p q e. r.two d p q (sym (rows d q).0 ∙ e ∙ other d q);
          whole = λ d j p q lj ne.
              let w = r.whole d j p q lj (λ e. ne ((rows d q).0 ∙ e)) in
              (w.0, (rows (a j d) w.0).0 ∙ w.1 ∙ sym (rows d q).0, other (a j d) w.0 ∙ w.2 ∙ sym (other d q));
          pass = λ d j p q lj f. rw (other d q) (r.pass d j p q lj (rw (rows d q).0 at f));
        }

-- what a kernel leaves of a valid map is a valid map
pub removal_valid : (a : Involutions) (n : ℕ) (mark : ℕ → ℕ) (present : ℕ → Type 0) → Valid a n present → Kernel a n present mark → (N : ℕ) → ((d : ℕ) → present d → d < N) → Valid (removal a n mark N) n (λ d. present d × (is_mark n (mark d) ≡ false))
removal_valid a n mark present m k N bound =
    let dim : ℕ → ℕ = λ d. (between (mark d)).0 in
    let via : ℕ → ℕ = λ d. (between (mark d)).1 in
    let rows : (d : ℕ) → is_mark n (mark d) ≡ true → (dim d ≡ (between (mark d)).0) × (via d ≡ (between (mark d)).1) = λ d q. (refl, refl) in
    let v = without_valid a n present m dim via (λ d. is_mark n (mark d)) (passing a n mark dim via rows present m k) N bound in
    rw (fun_ext (λ i. fun_ext (λ b. removal_without a n mark dim via rows N i b))) v
