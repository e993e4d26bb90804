-- Walks over darts and rows, forwards and back. Assumes nothing.
use mathlib.Core.Path.{◌≡◌, refl, sym, ap, ◌∙◌}
use mathlib.Core.Logic.{◌⊎◌, inl, inr}
use mathlib.Core.Bool.{Bool, true, false, cond, true≢false}
use mathlib.Core.List.{List, [], ◌∷◌}
use Prim.Native.Nat.{ℕ, zero, suc, ◌+◌, ◌-◌, ◌*◌, ◌≤◌, ◌<◌}
use native.Mathlib.Nat.{add-zero, zero-add}
use native.Mathlib.Omega.{arith}
use lib.ListN.{length}
use lib.Dec.{eqb, ltb}
use borrow.Author.Tests.{eqb-true, eqb-false, eq-eqb, lt-ltb, le-ltb}
use Rattle.maps.specs.Count.{count}
use Rattle.laws.proofs.Counting.{Mem, Nodup, pigeon, count_add, count_same}

-- the other one of the two rows x and y
unfoldable pub swap : ℕ → ℕ → ℕ → ℕ
swap x y t = cond (eqb t x) y x

pub swap_fst : (x y : ℕ) → swap x y x ≡ y
unfolding swap
swap_fst x y = rw (eq-eqb x x refl)

pub swap_snd : (x y : ℕ) → swap x y y ≡ x
unfolding swap
swap_snd x y = go (eqb y x) refl
  where
    go : (b : Bool) → eqb y x ≡ b → cond (eqb y x) y x ≡ x
    go true q = rw q (eqb-true y x q)
    go false q = rw q

pub no_both : (b : Bool) → b ≡ true → b ≡ false → ⊥
no_both b p q = true≢false (sym p ∙ q)

-- a is the table of neighbours (row, dart); a dart d with `removed d` is passed between the rows `dim d` and `via d`
module _ (a : ℕ → ℕ → ℕ) (dim via : ℕ → ℕ) (removed : ℕ → Bool) where
  abbrev pub turn : ℕ → ℕ → ℕ
  turn d t = swap (dim d) (via d) t

  abbrev pub Passable : ℕ → ℕ → Type 0
  Passable d t = (t ≡ dim d) ⊎ (t ≡ via d)

  -- the walk that begins by reading row t of dart d passes p darts and then meets e, by row u
  abbrev pub Reaches : ℕ → ℕ → ℕ → ℕ → ℕ → Type 0
  Reaches zero t d u e = (u ≡ t) × (e ≡ a t d)
  Reaches (suc p) t d u e = (removed (a t d) ≡ true) × Passable (a t d) t × Reaches p (turn (a t d) t) (a t d) u e

  abbrev pub Run : ℕ → ℕ → ℕ → ℕ → ℕ → Type 0
  Run p t d u e = Reaches p t d u e × (removed e ≡ false)

  pub turn_back : (d t : ℕ) → Passable d t → Passable d (turn d t) × (turn d (turn d t) ≡ t)
  turn_back d t (inl e) = rw (e, swap_fst, swap_snd) (inr refl, refl)
  turn_back d t (inr e) = rw (e, swap_snd, swap_fst) (inl refl, refl)

  pub unique : (p q t d u e v f : ℕ) → Run p t d u e → Run q t d v f → (p ≡ q) × (u ≡ v) × (e ≡ f)
  unique zero zero t d u e v f x y = (refl, x.0.0 ∙ sym y.0.0, x.0.1 ∙ sym y.0.1)
  unique zero (suc q) t d u e v f x y = absurd (no_both (removed (a t d)) y.0.0 (ap removed (sym x.0.1) ∙ x.1))
  unique (suc p) zero t d u e v f x y = absurd (no_both (removed (a t d)) x.0.0 (ap removed (sym y.0.1) ∙ y.1))
  unique (suc p) (suc q) t d u e v f x y =
      let r = unique p q (turn (a t d) t) (a t d) u e v f (x.0.2, x.1) (y.0.2, y.1) in
      (ap suc r.0, r.1, r.2)

  -- one more dart in front
  pub front : (q t d s b x : ℕ) → a t d ≡ x → removed x ≡ true → Passable x t → Run q (turn x t) x s b → Run (suc q) t d s b
  front q t d s b x e i c r = rw e ((i, c, r.0), r.1)

  -- the places that a walk passes, as numbers: a dart d met by its row `dim d` is d, met by its row `via d` it is N + d
  unfoldable pub code : ℕ → ℕ → ℕ → ℕ
  code N d t = cond (eqb t (dim d)) d (N + d)

  code_is : (N d t : ℕ) → Passable d t → ((t ≡ dim d) × (code N d t ≡ d)) ⊎ ((t ≡ via d) × (code N d t ≡ N + d))
  unfolding code
  code_is N d t c = go (eqb t (dim d)) refl c
    where
      go : (b : Bool) → eqb t (dim d) ≡ b → Passable d t → ((t ≡ dim d) × (cond (eqb t (dim d)) d (N + d) ≡ d)) ⊎ ((t ≡ via d) × (cond (eqb t (dim d)) d (N + d) ≡ N + d))
      go true q x = inl (eqb-true t (dim d) q, rw q)
      go false q (inl e) = absurd (eqb-false t (dim d) q e)
      go false q (inr e) = inr (e, rw q)

  code_inj : (N d t d' t' : ℕ) → d < N → d' < N → Passable d t → Passable d' t' → code N d t ≡ code N d' t' → (d ≡ d') × (t ≡ t')
  code_inj N d t d' t' l l' c c' e = go (code_is N d t c) (code_is N d' t' c')
    where
      go : ((t ≡ dim d) × (code N d t ≡ d)) ⊎ ((t ≡ via d) × (code N d t ≡ N + d)) → ((t' ≡ dim d') × (code N d' t' ≡ d')) ⊎ ((t' ≡ via d') × (code N d' t' ≡ N + d')) → (d ≡ d') × (t ≡ t')
      go (inl x) (inl y) = let k : d ≡ d' = omega arith in (k, x.0 ∙ ap dim k ∙ sym y.0)
      go (inl x) (inr y) = omega arith
      go (inr x) (inl y) = omega arith
      go (inr x) (inr y) = let k : d ≡ d' = omega arith in (k, x.0 ∙ ap via k ∙ sym y.0)

  -- the test on the numbers below N + N: the dart is passed
  unfoldable pub passed : ℕ → ℕ → Bool
  passed N x = cond (ltb x N) (removed x) (removed (x - N))

  passed_low : (N x : ℕ) → x < N → passed N x ≡ removed x
  unfolding passed
  passed_low N x l = rw (lt-ltb x N l)

  passed_high : (N x : ℕ) → passed N (N + x) ≡ removed x
  unfolding passed
  passed_high N x = let k : N + x - N ≡ x = omega arith in rw (le-ltb (N + x) N (omega arith), k)

  pub passed_count : (N : ℕ) → count (passed N) (N + N) ≡ 2 * count removed N
  passed_count N =
      omega (arith, count_add (passed N) N N, count_same (passed N) removed N (λ y l. passed_low N y l), count_same (λ x. passed N (N + x)) removed N (λ y l. passed_high N y))

  passed_code : (N d t : ℕ) → d < N → Passable d t → removed d ≡ true → (code N d t < N + N) × (passed N (code N d t) ≡ true)
  passed_code N d t l c i = go (code_is N d t c)
    where
      go : ((t ≡ dim d) × (code N d t ≡ d)) ⊎ ((t ≡ via d) × (code N d t ≡ N + d)) → (code N d t < N + N) × (passed N (code N d t) ≡ true)
      go (inl x) = rw x.1 (omega arith, passed_low N d l ∙ i)
      go (inr x) = rw x.1 (omega arith, passed_high N d ∙ i)

  -- the places passed by a walk that passes p darts
  unfoldable pub places : ℕ → ℕ → ℕ → ℕ → List ℕ
  places N zero t d = []
  places N (suc p) t d = code N (a t d) t ∷ places N p (turn (a t d) t) (a t d)

  pub length_places : (N p t d : ℕ) → length (places N p t d) ≡ p
  unfolding places
  length_places N zero t d = refl
  length_places N (suc p) t d = ap suc (length_places N p (turn (a t d) t) (a t d))

  pub record Place (N t d x : ℕ) : Type 0 where
    pub step : ℕ
    pub row : ℕ
    pub dart : ℕ
    pub at : Reaches step t d row dart
    pub is_removed : removed dart ≡ true
    pub passable : Passable dart row
    pub is : x ≡ code N dart row

  pub place_of : (N p t d u e x : ℕ) → Reaches p t d u e → Mem x (places N p t d) → Place N t d x
  unfolding places
  place_of N zero t d u e x h m = elim m [ ]
  place_of N (suc p) t d u e x h (inl k) =
      record { step = 0; row = t; dart = a t d; at = (refl, refl); is_removed = h.0; passable = h.1; is = k }
  place_of N (suc p) t d u e x h (inr m) =
      let r = place_of N p (turn (a t d) t) (a t d) u e x h.2 m in
      record { step = suc r.step; row = r.row; dart = r.dart; at = (h.0, h.1, r.at); is_removed = r.is_removed; passable = r.passable; is = r.is }

  pub record Ground (n : ℕ) (present : ℕ → Type 0) : Type 0 where
    pub inside : (t d : ℕ) → t ≤ n → present d → present (a t d)
    pub twice : (t d : ℕ) → t ≤ n → present d → a t (a t d) ≡ d
    pub low : (d : ℕ) → present d → removed d ≡ true → dim d ≤ n
    pub high : (d : ℕ) → present d → removed d ≡ true → via d ≤ n

  module _ (n : ℕ) (present : ℕ → Type 0) (g : Ground n present) where
    pub turn_le : (d t : ℕ) → present d → removed d ≡ true → Passable d t → turn d t ≤ n
    turn_le d t h i (inl e) = rw (e, swap_fst) (g.high d h i)
    turn_le d t h i (inr e) = rw (e, swap_snd) (g.low d h i)

    rev_acc : (p q t d u e s b : ℕ) → t ≤ n → present d → Reaches p t d u e → Run q t (a t d) s b → Run (p + q) u e s b
    rev_acc zero q t d u e s b l h x r = rw (zero-add, x.0, x.1) r
    rev_acc (suc p) q t d u e s b l h x r =
        let e₁ = a t d in
        let t₁ = turn e₁ t in
        let h₁ : present e₁ = g.inside t d l h in
        let l₁ : t₁ ≤ n = turn_le e₁ t h₁ x.0 x.1 in
        let c = turn_back e₁ t x.1 in
        let r₁ : Run q (turn e₁ t₁) e₁ s b = rw c.1 r in
        let r₂ : Run (suc q) t₁ (a t₁ e₁) s b = front q t₁ (a t₁ e₁) s b e₁ (g.twice t₁ e₁ l₁ h₁) x.0 c.0 r₁ in
        let k : suc p + q ≡ p + suc q = omega arith in
        rw k (rev_acc p (suc q) t₁ e₁ u e s b l₁ h₁ x.2 r₂)

    -- the way back
    pub rev : (p t d u e : ℕ) → t ≤ n → present d → removed d ≡ false → Reaches p t d u e → Run p u e t d
    rev p t d u e l h i x =
        rw (add-zero) at (rev_acc p zero t d u e t d l h x ((refl, sym (g.twice t d l h)), i))

    -- two walks from survivors that come to one place by one row are the same walk
    pub meet : (p q t d s c u e : ℕ) → t ≤ n → present d → removed d ≡ false → s ≤ n → present c → removed c ≡ false → Reaches p t d u e → Reaches q s c u e → (p ≡ q) × (t ≡ s) × (d ≡ c)
    meet p q t d s c u e l h i l' h' i' x y = unique p q u e t d s c (rev p t d u e l h i x) (rev q s c u e l' h' i' y)

    pub at_present : (p t d u e : ℕ) → t ≤ n → present d → Reaches p t d u e → present e
    at_present zero t d u e l h x = rw x.1 (g.inside t d l h)
    at_present (suc p) t d u e l h x = at_present p (turn (a t d) t) (a t d) u e (turn_le (a t d) t (g.inside t d l h) x.0 x.1) (g.inside t d l h) x.2

    module _ (N : ℕ) (bound : (d : ℕ) → present d → d < N) where
      -- two walks from survivors have a place in common only if they are one walk, at one step of it
      pub apart : (t d s c x : ℕ) → t ≤ n → present d → removed d ≡ false → s ≤ n → present c → removed c ≡ false → (r : Place N t d x) (r' : Place N s c x) → (r.step ≡ r'.step) × (t ≡ s) × (d ≡ c)
      apart t d s c x l h i l' h' i' r r' =
          let k = code_inj N r.dart r.row r'.dart r'.row (bound r.dart (at_present r.step t d r.row r.dart l h r.at)) (bound r'.dart (at_present r'.step s c r'.row r'.dart l' h' r'.at)) r.passable r'.passable (sym r.is ∙ r'.is) in
          meet r.step r'.step t d s c r.row r.dart l h i l' h' i' r.at (rw (k.0, k.1) r'.at)

      nodup_from : (m p t d u e t₀ d₀ : ℕ) → t₀ ≤ n → present d₀ → removed d₀ ≡ false → ((j v f : ℕ) → Reaches j t d v f → Reaches (m + j) t₀ d₀ v f) → Reaches p t d u e → Nodup (places N p t d)
      unfolding places
      nodup_from m zero t d u e t₀ d₀ l h i F x = tt
      nodup_from m (suc p) t d u e t₀ d₀ l h i F x =
          let e₁ = a t d in
          let t₁ = turn e₁ t in
          let X = code N e₁ t in
          let r₁ : Place N t₀ d₀ X = record { step = m + 0; row = t; dart = e₁; at = F 0 t e₁ (refl, refl); is_removed = x.0; passable = x.1; is = refl } in
          let new : Mem X (places N p t₁ e₁) → ⊥ = λ mm.
          let r = place_of N p t₁ e₁ u e X x.2 mm in
          let r₂ : Place N t₀ d₀ X = record { step = m + suc r.step; row = r.row; dart = r.dart; at = F (suc r.step) r.row r.dart (x.0, x.1, r.at); is_removed = r.is_removed; passable = r.passable; is = r.is } in
          omega (arith, (apart t₀ d₀ t₀ d₀ X l h i l h i r₁ r₂).0) in
          (new, nodup_from (suc m) p t₁ e₁ u e t₀ d₀ l h i (λ j v f y. let k : suc m + j ≡ m + suc j = omega arith in rw k (F (suc j) v f (x.0, x.1, y))) x.2)

      pub nodup_places : (p t d u e : ℕ) → t ≤ n → present d → removed d ≡ false → Reaches p t d u e → Nodup (places N p t d)
      nodup_places p t d u e l h i x = nodup_from zero p t d u e t d l h i (λ j v f y. rw zero-add y) x

      pub places_ok : (p t d u e x : ℕ) → t ≤ n → present d → Reaches p t d u e → Mem x (places N p t d) → (x < N + N) × (passed N x ≡ true)
      places_ok p t d u e x l h y m =
          let r = place_of N p t d u e x y m in
          rw r.is (passed_code N r.dart r.row (bound r.dart (at_present r.step t d r.row r.dart l h r.at)) r.passable r.is_removed)

      -- a walk from a survivor passes each dart at most twice
      pub short : (p t d u e : ℕ) → t ≤ n → present d → removed d ≡ false → Reaches p t d u e → p ≤ 2 * count removed N
      short p t d u e l h i x =
          omega (arith, pigeon (places N p t d) (passed N) (N + N) (nodup_places p t d u e l h i x) (λ y m. places_ok p t d u e y l h x m), length_places N p t d, passed_count N)

      -- a walk whose every dart met passable be passed ends
      module _ (S : ℕ → ℕ → Type 0) (step : (t d : ℕ) → S t d → removed (a t d) ≡ true → Passable (a t d) t × S (turn (a t d) t) (a t d)) where
        scan : (k t d : ℕ) → S t d → ((p : ℕ) × (u : ℕ) × (e : ℕ) × Run p t d u e) ⊎ ((u : ℕ) × (e : ℕ) × Reaches k t d u e)
        scan zero t d s = inr (t, a t d, (refl, refl))
        scan (suc k) t d s = go (removed (a t d)) refl (λ z. scan k (turn (a t d) t) (a t d) z)
          where
            go : (b : Bool) → removed (a t d) ≡ b → (S (turn (a t d) t) (a t d) → ((p : ℕ) × (u : ℕ) × (e : ℕ) × Run p (turn (a t d) t) (a t d) u e) ⊎ ((u : ℕ) × (e : ℕ) × Reaches k (turn (a t d) t) (a t d) u e)) → ((p : ℕ) × (u : ℕ) × (e : ℕ) × Run p t d u e) ⊎ ((u : ℕ) × (e : ℕ) × Reaches (suc k) t d u e)
            go false q ih = inl (0, t, a t d, ((refl, refl), q))
            go true q ih = let w = step t d s q in elim (ih w.1) [ inl r ↦ inl (suc r.0, r.1, r.2, ((q, w.0, r.3.0), r.3.1)) | inr r ↦ inr (r.0, r.1, (q, w.0, r.2)) ]

        pub ends : (t d : ℕ) → t ≤ n → present d → removed d ≡ false → S t d → (p : ℕ) × (u : ℕ) × (e : ℕ) × Run p t d u e
        ends t d l h i s = go (scan (suc (2 * count removed N)) t d s)
          where
            go : ((p : ℕ) × (u : ℕ) × (e : ℕ) × Run p t d u e) ⊎ ((u : ℕ) × (e : ℕ) × Reaches (suc (2 * count removed N)) t d u e) → (p : ℕ) × (u : ℕ) × (e : ℕ) × Run p t d u e
            go (inl r) = r
            go (inr r) = absurd (omega (arith, short (suc (2 * count removed N)) t d r.0 r.1 l h i r.2))
