-- `answers::marks::row_across` meets its contract: t is the lower row, the next one, or neither. Assumes nothing.
use mathlib.Core.Path.{◌≡◌, sym, ap, ◌∙◌}
use mathlib.Core.Bool.{Bool, true, ◌||◌, cond, or-true}
use Prim.Native.Nat.{ℕ, ◌+◌, ◌-◌}
use native.Mathlib.Omega.{arith}
use lib.Dec.{eqb}
use borrow.Author.Tests.{eq-eqb, ne_eqb}
use Rattle.maps.specs.Mark.{lower, can_pass, across}
use Rattle.laws.proofs.Marks.{lower_most, lower_pass, lower_across}
use Rattle.answers.proofs.marks.row_across.Goals as goal

-- from the lower row up
up : (mark t : ℕ) → t ≡ lower mark → (can_pass mark t ≡ true) × (t + 1 ≡ across mark t)
up mark t e =
    let test = eq-eqb t (lower mark) e in
    let can : can_pass mark t ≡ true = lower_pass mark t ∙ ap (λ (x : Bool). x || eqb t (lower mark + 1)) test in
    (can, ap (λ (x : ℕ). x + 1) e ∙ sym (lower_across mark t can ∙ ap (λ (x : Bool). cond x (lower mark + 1) (lower mark)) test))

-- from the next row down
down : (mark t : ℕ) → t ≡ lower mark + 1 → (can_pass mark t ≡ true) × (t - 1 ≡ across mark t)
down mark t e =
    let other = ne_eqb t (lower mark) (λ same. omega arith) in
    let can : can_pass mark t ≡ true = lower_pass mark t ∙ ap (λ (x : Bool). eqb t (lower mark) || x) (eq-eqb t (lower mark + 1) e) ∙ or-true (eqb t (lower mark)) in
    let less : t - 1 ≡ lower mark = omega arith in
    (can, less ∙ sym (lower_across mark t can ∙ ap (λ (x : Bool). cond x (lower mark + 1) (lower mark)) other))

pub overflow_add-result : goal.overflow_add-result
overflow_add-result c =
    let a = c in
    omega (arith, lower_most a.args.mark.0, c.lower_row-low.ensures, c.if-t-low.true)

pub returns-then-t-low : goal.returns-then-t-low
returns-then-t-low c =
    let a = c.args in
    up a.mark.0 a.t.0 (c.if-t-low.true ∙ c.lower_row-low.ensures)

pub overflow_add-low : goal.overflow_add-low
overflow_add-low c = omega (arith, lower_most c.args.mark.0, c.lower_row-low.ensures)

pub returns-then-t-low-2 : goal.returns-then-t-low-2
returns-then-t-low-2 c =
    let a = c.args in
    down a.mark.0 a.t.0 (c.if-t-low-2.true ∙ ap (λ (x : ℕ). x + 1) c.lower_row-low.ensures)

pub returns : goal.returns
returns c =
    let a = c.args in
    let e = c.lower_row-low.ensures in
    lower_pass a.mark.0 a.t.0
    ∙ ap (λ (x : Bool). x || eqb a.t.0 (lower a.mark.0 + 1)) (ne_eqb a.t.0 (lower a.mark.0) (λ same. c.if-t-low.false (same ∙ sym e)))
    ∙ ne_eqb a.t.0 (lower a.mark.0 + 1) (λ same. c.if-t-low-2.false (same ∙ sym (ap (λ (x : ℕ). x + 1) e)))
