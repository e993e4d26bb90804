-- What it is for a contract to leave one outcome, and the law that shows it of every job. Assumes nothing.
use mathlib.Core.Path.{◌≡◌, ap, sym, ◌∙◌}
use mathlib.Core.List.{List}
use Prim.Native.Nat.{ℕ}

-- contract a r s: the contract allows the result r and the memory s for the input a
module _ {A R S T L : Type 0} (contract : A → R → S → Type 0) (returns : R → T) (leaves : S → L) where
  -- Any two outcomes that the contract allows for one input are equal: result, refusal fields, counts, every entry lent.
  abbrev pub OneOutcome : Type 0
  OneOutcome = (a : A) (r r' : R) (s s' : S) → contract a r s → contract a r' s' → (returns r ≡ returns r') × (leaves s ≡ leaves s')

  -- a contract leaves one outcome if it says, by the input, the values of the result, which tell the result, and the memory
  pub one_outcome : {W : Type 0} (values : A → T → W) (back : W → T) → ((a : A) (v : T) → back (values a v) ≡ v) → (answer : A → W) (left : A → L)
      → ((a : A) (r : R) (s : S) → contract a r s → (values a (returns r) ≡ answer a) × (leaves s ≡ left a)) → OneOutcome
  one_outcome values back tells answer left says a r r' s s' c c' =
      let one = says a r s c in
      let other = says a r' s' c' in
      (sym (tells a (returns r)) ∙ ap back (one.0 ∙ sym other.0) ∙ tells a (returns r'), one.1 ∙ sym other.1)

-- three that are written, slices or arrays
abbrev pub three : {A B C : Type 0} → A → B → C → A × B × C
three x y z = (x, y, z)

pub same_three : {A B C : Type 0} {x x' : A} {y y' : B} {z z' : C} → x ≡ x' → y ≡ y' → z ≡ z' → three x y z ≡ three x' y' z'
same_three p q t = λ i. three (p i) (q i) (t i)

-- four slices that are written
abbrev pub four : List ℕ → List ℕ → List ℕ → List ℕ → List ℕ × List ℕ × List ℕ × List ℕ
four x y z w = (x, y, z, w)

pub same_four : {x x' y y' z z' w w' : List ℕ} → x ≡ x' → y ≡ y' → z ≡ z' → w ≡ w' → four x y z w ≡ four x' y' z' w'
same_four p q t u = λ i. four (p i) (q i) (t i) (u i)

-- five slices that are written
abbrev pub five : List ℕ → List ℕ → List ℕ → List ℕ → List ℕ → List ℕ × List ℕ × List ℕ × List ℕ × List ℕ
five x y z w v = (x, y, z, w, v)

pub same_five : {x x' y y' z z' w w' v v' : List ℕ} → x ≡ x' → y ≡ y' → z ≡ z' → w ≡ w' → v ≡ v' → five x y z w v ≡ five x' y' z' w' v'
same_five p q t u o = λ i. five (p i) (q i) (t i) (u i) (o i)

-- two slices that are written
abbrev pub pair : List ℕ → List ℕ → List ℕ × List ℕ
pair x y = (x, y)

pub same_pair : {x x' y y' : List ℕ} → x ≡ x' → y ≡ y' → pair x y ≡ pair x' y'
same_pair p q = λ i. pair (p i) (q i)

-- a job that writes nothing
abbrev pub nothing : {S : Type 0} → S → Unit {0}
nothing s = tt
