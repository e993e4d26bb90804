-- `packing::pack_marks` meets its contract. The invariant: Λ, Δ and the numbers of the survivors passed are packed, `next` is behind them. The measure: the darts left. Assumes nothing.
use mathlib.Core.Path.{◌≡◌, refl, sym, ap, ◌∙◌}
use mathlib.Core.Bool.{not}
use Prim.Native.Nat.{ℕ, ◌+◌, ◌-◌, zero-le}
use native.Mathlib.Omega.{arith}
use lib.ListN.{length}
use lib.Dec.{ltb}
use Rattle.maps.specs.Count.{count}
use Rattle.maps.specs.Table.{each, absent}
use Rattle.maps.specs.Mark.{stay}
use Rattle.maps.specs.Folded.{survives}
use Rattle.maps.specs.Rebase.{packed}
use Rattle.laws.proofs.Counting.{count_le}
use Rattle.packing.specs.Packing.{Packs}
use Rattle.packing.proofs.Packs.{packs_none, packs_on, packs_over, packs_here, packs_all, packs_filled, filled_behind, count_on_lem, count_over}
use Rattle.packing.proofs.pack_marks.Goals.{then-stands, else-stands}
use Rattle.packing.proofs.pack_marks.Goals as goal

pub loop-d-init : goal.loop-d-init
unfolding count
loop-d-init c = (zero-le, zero-le, refl, c.requires.1, c.requires.2, refl, packs_none _ _ _ _, packs_none _ _ _ _, packs_none _ _ _ _)

pub loop-d-preserved : goal.loop-d-preserved
loop-d-preserved c =
    let l = c.loop-d in
    let a = c.args in
    let v = l.invariant in
    let p = survives (each a.lambda.now) a.level.0 in
    let is : c.stands.result ≡ p l.d = c.stands.ensures ∙ ap (λ (x : ℕ). not (ltb x a.level.0)) (packs_here v.6 refl) in
    let e : l.next ≡ 0 + count p l.d = omega (arith, v.5) in
    let next : c.if-stands.next ≡ count p (l.d + 1) = elim c.if-stands.branch [
      | then-stands w ↦ omega (arith, w.next-is, v.5, count_on_lem p l.d (sym is ∙ w.if-stands.true))
      | else-stands w ↦ omega (arith, w.next-is, v.5, count_over p l.d (sym is ∙ w.if-stands.false))
    ] in
    let marks : Packs p (λ x. each a.lambda.now x - a.level.0) 0 (l.d + 1) a.lambda.now c.if-stands.lambda = elim c.if-stands.branch [
      | then-stands w ↦ rw w.lambda-is (packs_on v.6 (sym is ∙ w.if-stands.true) l.next _ e (omega (arith, v.1)) (ap (λ (x : ℕ). x - a.level.0) (packs_here v.6 refl)))
      | else-stands w ↦ rw w.lambda-is (packs_over v.6 (sym is ∙ w.if-stands.false))
    ] in
    let kinds : Packs p (each a.delta.now) 0 (l.d + 1) a.delta.now c.if-stands.delta = elim c.if-stands.branch [
      | then-stands w ↦ rw w.delta-is (packs_on v.7 (sym is ∙ w.if-stands.true) l.next _ e (omega (arith, v.1, c.requires.1)) (packs_here v.7 refl))
      | else-stands w ↦ rw w.delta-is (packs_over v.7 (sym is ∙ w.if-stands.false))
    ] in
    let numbers : Packs p (λ x. x) 0 (l.d + 1) a.old.now c.if-stands.old = elim c.if-stands.branch [
      | then-stands w ↦ rw w.old-is (packs_on v.8 (sym is ∙ w.if-stands.true) l.next _ e (omega (arith, v.1, c.requires.2)) refl)
      | else-stands w ↦ rw w.old-is (packs_over v.8 (sym is ∙ w.if-stands.false))
    ] in
    (omega arith, omega (arith, next, count_le p (l.d + 1)), marks.long, kinds.long ∙ c.requires.1, numbers.long ∙ c.requires.2, next, marks, kinds, numbers)

pub returns : goal.returns
returns c =
    let l = c.loop-d in
    let v = l.invariant in
    let N = length c.args.lambda.now in
    let e : l.d ≡ N = omega arith in
    let many : l.next ≡ count (survives (each c.args.lambda.now) c.args.level.0) N = v.5 ∙ ap (count (survives (each c.args.lambda.now) c.args.level.0)) e in record {
      lambda_left = packs_filled l.next stay (packs_all v.6 e) many (filled_behind stay l.next l.lambda (omega arith) (c.fill.ensures.after (λ y e. e)));
      delta_left = packs_filled l.next stay (packs_all v.7 e) many (filled_behind stay l.next l.delta (omega arith) (c.fill-2.ensures.after (λ y e. e))) ∙ ap (packed _ _ stay) c.requires.1;
      old_left = packs_filled l.next absent (packs_all v.8 e) many (filled_behind absent l.next l.old (omega arith) (c.fill-3.ensures.after (λ y e. e))) ∙ ap (packed _ _ absent) c.requires.2;
    }
