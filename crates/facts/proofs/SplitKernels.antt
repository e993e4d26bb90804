-- Splitting a kernel makes no difference: two kernels of one level that share no dart, in the document's words. Assumes nothing.
use mathlib.Core.Path.{◌≡◌, refl, sym, ap, ◌∙◌, fun_ext}
use mathlib.Core.Bool.{Bool, true, false}
use Prim.Native.Nat.{ℕ, suc, ◌≤◌, ◌<◌}
use Rattle.maps.specs.Verdict.{accepted}
use Rattle.maps.specs.Map.{Involutions, Valid}
use Rattle.maps.specs.Mark.{is_mark, between, beyond}
use Rattle.maps.specs.Kernel.{Kernel, WholeCells}
use Rattle.maps.specs.Removal.{removal}
use Rattle.maps.specs.Folded.{On, marks, level}
use Rattle.maps.specs.Pyramid.{Pyramid}
use Rattle.maps.specs.Check.{check_kernel}
use Rattle.facts.proofs.Removals.{Passing, without, without_valid}
use Rattle.laws.proofs.Marks.{beyond_row}
use Rattle.facts.proofs.Commuting.{commutes_kernel}
use Rattle.facts.proofs.Namings.{passing_same, without_same}
use Rattle.facts.proofs.Kernels.{removal_without, passing}
use Rattle.facts.proofs.Levels.{level_valid}
use Rattle.facts.proofs.Checks.{kernel_sound, sound_kernel}
use Rattle.maps.specs.Split.{together}
use Rattle.facts.proofs.Splits.{other_false, either, Left, keeps, both_passing}
use Rattle.facts.proofs.Splits as general

-- a dart of the level that is not in the kernel
abbrev pub Survivor : ℕ → (ℕ → Type 0) → (ℕ → ℕ) → ℕ → Type 0
Survivor n present mark d = present d × (is_mark n (mark d) ≡ false)

-- whole cells that walks can pass are a kernel (the way back from `passing`)
module _ (a : Involutions) (n : ℕ) (mark dim via : ℕ → ℕ) (present : ℕ → Type 0) (m : Valid a n present) (rows : (d : ℕ) → present d → is_mark n (mark d) ≡ true → (dim d ≡ (between (mark d)).0) × (via d ≡ (between (mark d)).1))
    (whole : WholeCells a n present mark) (k : Passing a n present dim via (λ d. is_mark n (mark d))) where
  -- each dart commutes where walks can pass it
  pub passing_kernel : Kernel a n present mark
  passing_kernel =
      commutes_kernel a n present mark m.inside whole (λ d p q h.
      let w = rows d p q in
      let b = beyond_row n (mark d) q h in
      sym (rw w.1 at (k.pass d (beyond (mark d)) p q b.0 (rw w.0 b.1))))

-- A kernel of a level, and a second mark row that marks none of its darts. A walk passes a dart between the rows of the mark that it has.
module _ (a : Involutions) (n N : ℕ) (present : ℕ → Type 0) (m : Valid a n present) (bound : (d : ℕ) → present d → d < N) (mark₁ mark₂ : ℕ → ℕ) (k₁ : Kernel a n present mark₁)
    (disjoint : (d : ℕ) → present d → is_mark n (mark₁ d) ≡ true → is_mark n (mark₂ d) ≡ true → ⊥) where
  -- both rows together
  abbrev mark : ℕ → ℕ
  mark = together n mark₁ mark₂

  -- the dimension of a dart's cell
  abbrev dim : ℕ → ℕ
  dim d = (between (mark d)).0

  -- the row that passes it
  abbrev via : ℕ → ℕ
  via d = (between (mark d)).1

  -- is d in the first kernel
  abbrev first : ℕ → Bool
  first d = is_mark n (mark₁ d)

  -- is d marked by the second row
  abbrev second : ℕ → Bool
  second d = is_mark n (mark₂ d)

  -- a dart of the first kernel has the first row's mark
  rows₁ : (d : ℕ) → first d ≡ true → (dim d ≡ (between (mark₁ d)).0) × (via d ≡ (between (mark₁ d)).1)
  rows₁ d q = let e : mark d ≡ mark₁ d = rw q in (ap (λ (x : ℕ). (between x).0) e, ap (λ (x : ℕ). (between x).1) e)

  -- a dart that the second row marks is not in the first kernel
  not_first : (d : ℕ) → present d → second d ≡ true → first d ≡ false
  not_first d p q = other_false (first d) (second d) (disjoint d p) q

  -- it has the second row's mark
  rows₂ : (d : ℕ) → present d → second d ≡ true → (dim d ≡ (between (mark₂ d)).0) × (via d ≡ (between (mark₂ d)).1)
  rows₂ d p q = let e : mark d ≡ mark₂ d = rw (not_first d p q) in (ap (λ (x : ℕ). (between x).0) e, ap (λ (x : ℕ). (between x).1) e)

  -- both together mark a dart where one of them does
  either_together : (d : ℕ) → is_mark n (mark d) ≡ either first second d
  either_together d = go (first d) refl
    where
      go : (x : Bool) → first d ≡ x → is_mark n (mark d) ≡ either first second d
      go true e = rw (e, e)
      go false e = rw e

  -- walks can pass the first kernel
  passing₁ : Passing a n present dim via first
  passing₁ = passing a n mark₁ dim via rows₁ present m k₁

  -- what it leaves is a valid map
  left : Valid (without a dim via first N) n (Left present first)
  left = without_valid a n present m dim via first passing₁ N bound

  -- the removal of the first kernel, on any map
  removal₁ : (b : Involutions) → removal b n mark₁ N ≡ without b dim via first N
  removal₁ b = fun_ext (λ i. fun_ext (λ d. removal_without b n mark₁ dim via rows₁ N i d))

  -- the removal of both
  removal_both : removal a n mark N ≡ without a dim via (either first second) N
  removal_both =
      let e : (λ d. is_mark n (mark d)) ≡ either first second = fun_ext either_together in
      fun_ext (λ i. fun_ext (λ d. removal_without a n mark dim via (λ x q. (refl, refl)) N i d ∙ ap (λ (f : ℕ → Bool). without a dim via f N i d) e))

  -- the second row on a map on which it is a kernel and whose darts are some of those present
  module _ (b : Involutions) (some : ℕ → Type 0) (sub : (d : ℕ) → some d → present d) (v : Valid b n some) (k₂ : Kernel b n some mark₂) where
    -- walks can pass it between the rows of its own marks
    own : Passing b n some (λ d. (between (mark₂ d)).0) (λ d. (between (mark₂ d)).1) second
    own = passing b n mark₂ (λ d. (between (mark₂ d)).0) (λ d. (between (mark₂ d)).1) (λ d q. (refl, refl)) some v k₂

    -- these are the rows of both together
    turned : (d : ℕ) → some d → second d ≡ true → ((between (mark₂ d)).0 ≡ dim d) × ((between (mark₂ d)).1 ≡ via d)
    turned d p q = let r = rows₂ d (sub d p) q in (sym r.0, sym r.1)

    -- so walks can pass it between those
    passing₂ : Passing b n some dim via second
    passing₂ = passing_same b b n some v (λ d. (between (mark₂ d)).0) (λ d. (between (mark₂ d)).1) dim via second second own (λ t d lt p. refl) (λ d p. refl) turned

    -- and its removal is the map without it
    removal₂ : (i d : ℕ) → i ≤ n → some d → removal b n mark₂ N i d ≡ without b dim via second N i d
    removal₂ i d li p =
        removal_without b n mark₂ (λ x. (between (mark₂ x)).0) (λ x. (between (mark₂ x)).1) (λ x q. (refl, refl)) N i d
        ∙ without_same b b n some v (λ x. (between (mark₂ x)).0) (λ x. (between (mark₂ x)).1) dim via second second own (λ t x lt h. refl) (λ x h. refl) turned N i d li p

  -- the second row is a kernel of the level too
  module _ (k₂ : Kernel a n present mark₂) where
    -- walks can pass the second kernel
    pass₂ : Passing a n present dim via second
    pass₂ = passing₂ a present (λ d p. p) m k₂

    -- both together are whole cells
    whole_both : WholeCells a n present mark
    whole_both d j p q lj ne = go (first d) refl
      where
        go : (x : Bool) → first d ≡ x → mark (a j d) ≡ mark d
        go true e =
            let w : mark₁ (a j d) ≡ mark₁ d = k₁.whole d j p e lj (rw e at ne) in
            let f : first (a j d) ≡ true = rw w e in
            rw (f, e) w
        go false e =
            let q' : second d ≡ true = rw e at q in
            let w : mark₂ (a j d) ≡ mark₂ d = k₂.whole d j p q' lj (rw e at ne) in
            let f : first (a j d) ≡ false = not_first (a j d) (m.inside j d lj p) (rw w q') in
            rw (f, e) w

    -- and a kernel
    together_kernel : Kernel a n present mark
    together_kernel =
        let e : (λ d. is_mark n (mark d)) ≡ either first second = fun_ext either_together in
        passing_kernel a n mark dim via present m (λ d p q. (refl, refl)) whole_both (rw e (both_passing a n present dim via first second passing₁ pass₂))

    -- also on what the first leaves
    after : Passing (without a dim via first N) n (Left present first) dim via second
    after = general.second_after a n present m dim via first second passing₁ pass₂ disjoint N bound

    -- the second is a kernel of what the first leaves
    kernel_after : Kernel (removal a n mark₁ N) n (Survivor n present mark₁) mark₂
    kernel_after =
        rw (removal₁ a)
        (passing_kernel (without a dim via first N) n mark₂ dim via (Left present first) left (λ d p q. rows₂ d p.0 q)
        (λ d j p q lj ne. rw (keeps a n present m dim via first second passing₁ N bound disjoint pass₂.whole d j p.0 q lj (λ e. ne (sym e ∙ (rows₂ d p.0 q).0))) (k₂.whole d j p.0 q lj ne)) after)

    -- the first and then the second, or both together
    first_second : (i d : ℕ) → i ≤ n → present d → first d ≡ false → second d ≡ false → removal (removal a n mark₁ N) n mark₂ N i d ≡ removal a n mark N i d
    first_second i d li p q₁ q₂ =
        rw (removal₁ a, removal_both)
        (removal₂ (without a dim via first N) (Left present first) (λ x h. h.0) left (rw (removal₁ a) at kernel_after) i d li (p, q₁)
        ∙ general.first_second a n present m dim via first second passing₁ pass₂ disjoint N bound i d li p q₁ q₂)

    -- the second and then the first, or both together
    second_first : (i d : ℕ) → i ≤ n → present d → first d ≡ false → second d ≡ false → removal (removal a n mark₂ N) n mark₁ N i d ≡ removal a n mark N i d
    second_first i d li p q₁ q₂ =
        let A = without a dim via second N in
        let B = removal a n mark₂ N in
        let k = general.second_after a n present m dim via second first pass₂ passing₁ (λ x h y z. disjoint x h z y) N bound in
        rw (removal₁ B, removal_both)
        (sym (without_same A B n (Left present second) (without_valid a n present m dim via second pass₂ N bound) dim via dim via first first k (λ t x lt h. sym (removal₂ a present (λ y z. z) m k₂ t x lt h.0)) (λ x h. refl) (λ x h q. (refl, refl)) N i d li (p, q₂))
        ∙ general.second_first a n present m dim via first second passing₁ pass₂ disjoint N bound i d li p q₁ q₂)

-- What a split means: both together are a kernel, each is a kernel of what the other leaves, and all three ways leave the same map on the survivors.
pub record Split (a : Involutions) (n N : ℕ) (present : ℕ → Type 0) (mark₁ mark₂ : ℕ → ℕ) : Type 0 where
  pub both : Kernel a n present (together n mark₁ mark₂)
  pub second_after : Kernel (removal a n mark₁ N) n (Survivor n present mark₁) mark₂
  pub first_after : Kernel (removal a n mark₂ N) n (Survivor n present mark₂) mark₁
  pub one_two : (i d : ℕ) → i ≤ n → present d → is_mark n (mark₁ d) ≡ false → is_mark n (mark₂ d) ≡ false → removal (removal a n mark₁ N) n mark₂ N i d ≡ removal a n (together n mark₁ mark₂) N i d
  pub two_one : (i d : ℕ) → i ≤ n → present d → is_mark n (mark₁ d) ≡ false → is_mark n (mark₂ d) ≡ false → removal (removal a n mark₂ N) n mark₁ N i d ≡ removal a n (together n mark₁ mark₂) N i d

-- Splitting a kernel makes no difference: if two kernels of one map share no dart, both together are a kernel of it, and removing them together, the first and then the second, or the second and then the first gives the same map.
pub split : (a : Involutions) (n N : ℕ) (present : ℕ → Type 0) → Valid a n present → ((d : ℕ) → present d → d < N) → (mark₁ mark₂ : ℕ → ℕ) → Kernel a n present mark₁ → Kernel a n present mark₂
    → ((d : ℕ) → present d → is_mark n (mark₁ d) ≡ true → is_mark n (mark₂ d) ≡ true → ⊥) → Split a n N present mark₁ mark₂
split a n N present m bound mark₁ mark₂ k₁ k₂ disjoint = record {
  both = together_kernel a n N present m bound mark₁ mark₂ k₁ disjoint k₂;
  second_after = kernel_after a n N present m bound mark₁ mark₂ k₁ disjoint k₂;
  first_after = kernel_after a n N present m bound mark₂ mark₁ k₂ (λ d p x y. disjoint d p y x) k₁;
  one_two = first_second a n N present m bound mark₁ mark₂ k₁ disjoint k₂;
  two_one = second_first a n N present m bound mark₁ mark₂ k₁ disjoint k₂;
}

-- The same on level l of an accepted pyramid.
pub split_level : (a : Involutions) (n N h : ℕ) (Λ Δ : ℕ → ℕ) → Pyramid a n N h Λ Δ → (l : ℕ) → l ≤ h → (mark₁ mark₂ : ℕ → ℕ)
    → Kernel (level a n N (marks h Λ Δ) l) n (On N Λ l) mark₁ → Kernel (level a n N (marks h Λ Δ) l) n (On N Λ l) mark₂ → ((d : ℕ) → On N Λ l d → is_mark n (mark₁ d) ≡ true → is_mark n (mark₂ d) ≡ true → ⊥)
    → Split (level a n N (marks h Λ Δ) l) n N (On N Λ l) mark₁ mark₂
split_level a n N h Λ Δ y l k = split (level a n N (marks h Λ Δ) l) n N (On N Λ l) (level_valid a n N h Λ Δ y l k) (λ d o. o.0)

-- The same in the words of the check: two mark rows of darts of level l that share no dart, each accepted there alone, are accepted together, and the second is accepted on what the first leaves.
pub split_accepted : (a : Involutions) (n N h : ℕ) (Λ Δ : ℕ → ℕ) → Pyramid a n N h Λ Δ → (l : ℕ) → l ≤ h → (mark₁ mark₂ : ℕ → ℕ)
    → ((d : ℕ) → d < N → is_mark n (mark₁ d) ≡ true → l ≤ Λ d) → ((d : ℕ) → d < N → is_mark n (mark₂ d) ≡ true → l ≤ Λ d) → ((d : ℕ) → d < N → is_mark n (mark₁ d) ≡ true → is_mark n (mark₂ d) ≡ true → ⊥)
    → check_kernel (level a n N (marks h Λ Δ) l) n N mark₁ l ≡ accepted → check_kernel (level a n N (marks h Λ Δ) l) n N mark₂ l ≡ accepted
    → (check_kernel (level a n N (marks h Λ Δ) l) n N (together n mark₁ mark₂) l ≡ accepted) × (check_kernel (removal (level a n N (marks h Λ Δ) l) n mark₁ N) n N mark₂ (suc l) ≡ accepted)
split_accepted a n N h Λ Δ y l k mark₁ mark₂ on₁ on₂ apart e₁ e₂ =
    let A = level a n N (marks h Λ Δ) l in
    let v = level_valid a n N h Λ Δ y l k in
    let k₁ = kernel_sound A n N mark₁ l (On N Λ l) v (λ d o. o.0) e₁ in
    let k₂ = kernel_sound A n N mark₂ l (On N Λ l) v (λ d o. o.0) e₂ in
    let disjoint : (d : ℕ) → On N Λ l d → is_mark n (mark₁ d) ≡ true → is_mark n (mark₂ d) ≡ true → ⊥ = λ d o. apart d o.0 in
    let s = split A n N (On N Λ l) v (λ d o. o.0) mark₁ mark₂ k₁ k₂ disjoint in
    let w : Valid (removal A n mark₁ N) n (Survivor n (On N Λ l) mark₁) = rw (removal₁ A n N (On N Λ l) v (λ d o. o.0) mark₁ mark₂ k₁ disjoint A) (left A n N (On N Λ l) v (λ d o. o.0) mark₁ mark₂ k₁ disjoint) in (
      sound_kernel A n N (together n mark₁ mark₂) l (On N Λ l) v (λ d o. o.0) (λ d ld q. (ld, marked d ld q (is_mark n (mark₁ d)) refl)) s.both,
      sound_kernel (removal A n mark₁ N) n N mark₂ (suc l) (Survivor n (On N Λ l) mark₁) w (λ d o. o.0.0) (λ d ld q. ((ld, on₂ d ld q), not_first A n N (On N Λ l) v (λ x o. o.0) mark₁ mark₂ k₁ disjoint d (ld, on₂ d ld q) q)) s.second_after,
    )
  where
    marked : (d : ℕ) → d < N → is_mark n (together n mark₁ mark₂ d) ≡ true → (x : Bool) → is_mark n (mark₁ d) ≡ x → l ≤ Λ d
    marked d ld q true e = on₁ d ld e
    marked d ld q false e = on₂ d ld (rw e at q)
