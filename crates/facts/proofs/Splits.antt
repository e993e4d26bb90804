-- Two kernels of one map, taken out together or one after the other, for any two rows by which a dart is passed. Assumes nothing.
use mathlib.Core.Path.{◌≡◌, refl, sym, ap, ◌∙◌, fun_ext}
use mathlib.Core.Logic.{◌⊎◌, inl, inr}
use mathlib.Core.Bool.{Bool, true, false, ◌||◌, or_comm, or-true}
use Prim.Native.Nat.{ℕ, ◌≤◌, ◌<◌}
use Rattle.maps.specs.Map.{Involutions, Valid}
use Rattle.facts.proofs.Removals.{far_ne, Passing, without, without_valid, without_run, without_stays, led, ground}
use Rattle.facts.proofs.Strings.{string}

-- the darts of either kernel
abbrev pub either : (ℕ → Bool) → (ℕ → Bool) → ℕ → Bool
either first second d = first d || second d

-- a dart of the first is one of either
pub either_first : (f g : ℕ → Bool) (d : ℕ) → f d ≡ true → either f g d ≡ true
either_first f g d q = rw q

-- so is a dart of the second
pub either_second : (f g : ℕ → Bool) (d : ℕ) → g d ≡ true → either f g d ≡ true
either_second f g d q = rw q (or-true (f d))

-- a dart of either is one of the first or of the second
pub either_cases : (f g : ℕ → Bool) (d : ℕ) → either f g d ≡ true → (f d ≡ true) ⊎ (g d ≡ true)
either_cases f g d q = go (f d) refl
  where
    go : (x : Bool) → f d ≡ x → (f d ≡ true) ⊎ (g d ≡ true)
    go true e = inl e
    go false e = inr (rw e at q)

-- a dart of none is not one of either
pub neither : (f g : ℕ → Bool) (d : ℕ) → f d ≡ false → g d ≡ false → either f g d ≡ false
neither f g d p q = rw (p, q)

-- of two tests that never both hold, the first fails where the second holds
pub other_false : (x y : Bool) → (x ≡ true → y ≡ true → ⊥) → y ≡ true → x ≡ false
other_false true y apart q = absurd (apart refl q)
other_false false y apart q = refl

-- what the first kernel leaves
abbrev pub Left : (ℕ → Type 0) → (ℕ → Bool) → ℕ → Type 0
Left present first d = present d × (first d ≡ false)

-- From a dart of the kernel every row but its dimension leads to a dart of the kernel with the same two rows: `whole` of a Passing, without the rest.
abbrev pub Whole : Involutions → ℕ → (ℕ → Type 0) → (ℕ → ℕ) → (ℕ → ℕ) → (ℕ → Bool) → Type 0
Whole a n present dim via removed =
    (d j : ℕ) → present d → removed d ≡ true → j ≤ n → (dim d ≡ j → ⊥) → (removed (a j d) ≡ true) × (dim (a j d) ≡ dim d) × (via (a j d) ≡ via d)

module _ (a : Involutions) (n : ℕ) (present : ℕ → Type 0) (m : Valid a n present) (dim via : ℕ → ℕ) (first second : ℕ → Bool) (k₁ : Passing a n present dim via first) (N : ℕ) (bound : (d : ℕ) → present d → d < N) where
  -- a kernel of what the first leaves, and the two together, where they are a kernel: taken out one after the other they leave the same map as together
  module _ (k₂ : Passing (without a dim via first N) n (Left present first) dim via second) (k₁₂ : Passing a n present dim via (either first second)) where
    pub without_both : (i d : ℕ) → i ≤ n → present d → first d ≡ false → second d ≡ false
        → without (without a dim via first N) dim via second N i d ≡ without a dim via (either first second) N i d
    without_both i d li p q₁ q₂ =
        let A = without a dim via first N in
        let m₁ : Valid A n (Left present first) = without_valid a n present m dim via first k₁ N bound in
        let w = led A n (Left present first) m₁ dim via second k₂ N (λ x z. bound x z.0) i d li (p, q₁) q₂ in
        let g = ground A n (Left present first) m₁ dim via second k₂ in
        let r = string a A dim via first second (either first second) n (Left present first) g (either_first first second) (either_second first second) (λ x z q. neither first second x z.1 q)
        (λ t x lt z. let v = led a n present m dim via first k₁ N bound t x lt z.0 z.1 in (v.passes, v.run))
        w.passes i d i (without A dim via second N i d) li (p, q₁) w.run in
        sym (without_run a n present m dim via (either first second) k₁₂ N bound i d r.0 i (without A dim via second N i d) li p (neither first second d q₁ q₂) r.2)

  -- The second kernel is whole in the map itself, and shares no dart with the first: then its darts keep all their neighbours but one when the first is taken out.
  module _ (disjoint : (d : ℕ) → present d → first d ≡ true → second d ≡ true → ⊥) (whole : Whole a n present dim via second) where
    -- a dart of the second is not in the first
    not_first : (d : ℕ) → present d → second d ≡ true → first d ≡ false
    not_first d p q = other_false (first d) (second d) (disjoint d p) q

    -- its neighbours stay, by every row but its dimension
    pub keeps : (d j : ℕ) → present d → second d ≡ true → j ≤ n → (dim d ≡ j → ⊥) → without a dim via first N j d ≡ a j d
    keeps d j p q l z = without_stays a n present m dim via first k₁ N bound j d l p (not_first d p q) (not_first (a j d) (m.inside j d l p) (whole d j p q l z).0)

    -- two steps by rows other than the dimension of a dart of the second kernel are the same before and after, so its cells can be passed before exactly where they can be passed after
    pub keeps_two : (d i j : ℕ) → present d → second d ≡ true → i ≤ n → j ≤ n → (dim d ≡ i → ⊥) → (dim d ≡ j → ⊥) → without a dim via first N i (without a dim via first N j d) ≡ a i (a j d)
    keeps_two d i j p q li lj zi zj =
        let w = whole d j p q lj zj in
        ap (without a dim via first N i) (keeps d j p q lj zj) ∙ keeps (a j d) i (m.inside j d lj p) w.0 li (λ e. zi (sym w.1 ∙ e))

-- a kernel of a map, on fewer darts
pub passing_fewer : (a : Involutions) (n : ℕ) (present some : ℕ → Type 0) (dim via : ℕ → ℕ) (removed : ℕ → Bool) → ((d : ℕ) → some d → present d) → Passing a n present dim via removed → Passing a n some dim via removed
passing_fewer a n present some dim via removed sub k = record {
  low = λ d p. k.low d (sub d p);
  high = λ d p. k.high d (sub d p);
  two = λ d p. k.two d (sub d p);
  whole = λ d j p. k.whole d j (sub d p);
  pass = λ d j p. k.pass d j (sub d p);
}

-- two kernels of one map together are a kernel
pub both_passing : (a : Involutions) (n : ℕ) (present : ℕ → Type 0) (dim via : ℕ → ℕ) (first second : ℕ → Bool)
    → Passing a n present dim via first → Passing a n present dim via second → Passing a n present dim via (either first second)
both_passing a n present dim via first second k₁ k₂ = record {
  low = λ d p q. elim (either_cases first second d q) [ inl x ↦ k₁.low d p x | inr x ↦ k₂.low d p x ];
  high = λ d p q. elim (either_cases first second d q) [ inl x ↦ k₁.high d p x | inr x ↦ k₂.high d p x ];
  two = λ d p q. elim (either_cases first second d q) [ inl x ↦ k₁.two d p x | inr x ↦ k₂.two d p x ];
  whole = λ d j p q l z. elim (either_cases first second d q) [
    | inl x ↦ (either_first first second (a j d) (k₁.whole d j p x l z).0, (k₁.whole d j p x l z).1, (k₁.whole d j p x l z).2)
    | inr x ↦ (either_second first second (a j d) (k₂.whole d j p x l z).0, (k₂.whole d j p x l z).1, (k₂.whole d j p x l z).2)
  ];
  pass = λ d j p q l f. elim (either_cases first second d q) [ inl x ↦ k₁.pass d j p x l f | inr x ↦ k₂.pass d j p x l f ];
}

-- The law: two kernels of one map that share no dart.
module _ (a : Involutions) (n : ℕ) (present : ℕ → Type 0) (m : Valid a n present) (dim via : ℕ → ℕ) (first second : ℕ → Bool) (k₁ : Passing a n present dim via first) (k₂ : Passing a n present dim via second)
    (disjoint : (d : ℕ) → present d → first d ≡ true → second d ≡ true → ⊥) (N : ℕ) (bound : (d : ℕ) → present d → d < N) where
  -- the second is a kernel of what the first leaves
  pub second_after : Passing (without a dim via first N) n (Left present first) dim via second
  second_after = record {
    low = λ d p q. k₂.low d p.0 q;
    high = λ d p q. k₂.high d p.0 q;
    two = λ d p q. k₂.two d p.0 q;
    whole = λ d j p q l z. rw (keeps a n present m dim via first second k₁ N bound disjoint k₂.whole d j p.0 q l z) (k₂.whole d j p.0 q l z);
    pass = λ d j p q l f.
        let two_steps = keeps_two a n present m dim via first second k₁ N bound disjoint k₂.whole d in
        let z = far_ne (dim d) j f in
        let lv = k₂.high d p.0 q in
        let zv = k₂.two d p.0 q in
        two_steps (via d) j p.0 q lv l zv z ∙ k₂.pass d j p.0 q l f ∙ sym (two_steps j (via d) p.0 q l lv z zv);
  }

  -- the first and then the second, or both together: the same map on the survivors
  pub first_second : (i d : ℕ) → i ≤ n → present d → first d ≡ false → second d ≡ false
      → without (without a dim via first N) dim via second N i d ≡ without a dim via (either first second) N i d
  first_second = without_both a n present m dim via first second k₁ N bound second_after (both_passing a n present dim via first second k₁ k₂)

-- the second and then the first too
pub second_first : (a : Involutions) (n : ℕ) (present : ℕ → Type 0) → Valid a n present → (dim via : ℕ → ℕ) (first second : ℕ → Bool) → Passing a n present dim via first → Passing a n present dim via second
    → ((d : ℕ) → present d → first d ≡ true → second d ≡ true → ⊥) → (N : ℕ) → ((d : ℕ) → present d → d < N)
    → (i d : ℕ) → i ≤ n → present d → first d ≡ false → second d ≡ false
    → without (without a dim via second N) dim via first N i d ≡ without a dim via (either first second) N i d
second_first a n present m dim via first second k₁ k₂ disjoint N bound i d li p q₁ q₂ =
    first_second a n present m dim via second first k₂ k₁ (λ e h x y. disjoint e h y x) N bound i d li p q₂ q₁
    ∙ ap (λ (f : ℕ → Bool). without a dim via f N i d) (fun_ext (λ e. or_comm (second e) (first e)))

-- The finding: a kernel of a map and a kernel of what it leaves. Where the two together are whole cells of the map, each of them can be passed there.
module _ (a : Involutions) (n : ℕ) (present : ℕ → Type 0) (m : Valid a n present) (dim via : ℕ → ℕ) (first second : ℕ → Bool) (k₁ : Passing a n present dim via first)
    (disjoint : (d : ℕ) → present d → first d ≡ true → second d ≡ true → ⊥) (N : ℕ) (bound : (d : ℕ) → present d → d < N)
    (k₂ : Passing (without a dim via first N) n (Left present first) dim via second) (whole : Whole a n present dim via (either first second)) where
  -- no cell has darts of both
  whole_second : Whole a n present dim via second
  whole_second d j p q l z =
      let w = whole d j p (either_second first second d q) l z in
      elim (either_cases first second (a j d) w.0) [
        | inl x ↦
            let v = k₁.whole (a j d) j (m.inside j d l p) x l (λ e. z (sym w.1 ∙ e)) in
            absurd (disjoint d p (ap first (sym (m.twice j d l p)) ∙ v.0) q)
        | inr x ↦ (x, w.1, w.2)
      ]

  -- a dart of the second is left by the first
  left : (d : ℕ) → present d → second d ≡ true → Left present first d
  left d p q = (p, other_false (first d) (second d) (disjoint d p) q)

  -- the second kernel, in the map itself
  pub second_before : Passing a n present dim via second
  second_before = record {
    low = λ d p q. k₂.low d (left d p q) q;
    high = λ d p q. k₂.high d (left d p q) q;
    two = λ d p q. k₂.two d (left d p q) q;
    whole = whole_second;
    pass = λ d j p q l f.
        let two_steps = keeps_two a n present m dim via first second k₁ N bound disjoint whole_second d in
        let z = far_ne (dim d) j f in
        let lv = k₂.high d (left d p q) q in
        let zv = k₂.two d (left d p q) q in
        sym (two_steps (via d) j p q lv l zv z) ∙ k₂.pass d j (left d p q) q l f ∙ two_steps j (via d) p q l lv z zv;
  }

  -- so the two together are a kernel
  pub whole_passing : Passing a n present dim via (either first second)
  whole_passing = both_passing a n present dim via first second k₁ second_before
