-- `starting_again::tested` meets its contract. Assumes nothing.
use mathlib.Core.Path.{◌≡◌, refl, sym, ap, ◌∙◌}
use mathlib.Core.Bool.{Bool, true, false, true≢false}
use mathlib.Core.List.{List}
use Prim.Native.Nat.{ℕ, ◌≤◌, ◌<◌}
use native.Mathlib.Omega.{arith}
use lib.ListN.{length}
use borrow.Author.Tests.{ltb-true, ltb-false}
use lib.Dec.{ltb}
use borrow.Author.Rules.{rules}
use Rattle.std.specs.Ordering.{is_lt, nat_cmp}
use Rattle.std.proofs.lemmas.Map.Keys.{ge_from_not_lt}
use Rattle.maps.specs.Verdict.{Verdict, accepted}
use Rattle.maps.specs.Table.{each}
use Rattle.maps.specs.Folded.{Folded}
use Rattle.maps.specs.CheckPyramid.{check_lent}
use Rattle.maps.specs.NewBase.{new_darts}
use Rattle.facts.proofs.ExactJobs.{check_accepts}
use Rattle.answers.specs.Pyramid.{folded}
use Rattle.answers.specs.Lent.{lent_of}
use Rattle.answers.specs.declared.Sizes.{Sizes}
use Rattle.answers.proofs.Refusals.{passed_on, told}
use Rattle.starting_again.proofs.Tests.{sizes_refused, check_refused, no_level, no_dart, all_passed}
use Rattle.starting_again.proofs.tested.Goals as goal

-- a level above another, as `<` says it
level_above : (a b : ℕ) → is_lt (nat_cmp a b) ≡ true → a < b
level_above a b e = ltb-true a b (go (ltb a b) refl)
  where
    go : (x : Bool) → ltb a b ≡ x → ltb a b ≡ true
    go true q = q
    go false q = let l = ltb-false a b q in absurd (true≢false (sym e ∙ not_lt l))
      where
        not_lt : b ≤ a → is_lt (nat_cmp a b) ≡ false
        not_lt l = search rules

-- the verdict of sizes and lengths, where the length has another name
sized : (z : Sizes) {v : Verdict} {x y : Bool} → v ≡ lent_of z.n.0 z.darts z.h.0 x → x ≡ y → v ≡ lent_of z.n.0 z.darts z.h.0 y
sized z e f = e ∙ ap (lent_of z.n.0 z.darts z.h.0) f

-- what a check that accepts says of Λ, and how many darts are then on the level
module _ (P : Folded) (table : List ℕ) (e : accepted ≡ check_lent P table) where
  long : (length P.lambda ≡ P.N) × (P.N ≤ 4096)
  long = let p = check_accepts P table (sym e) in (p.lambda_length, p.darts.1)

  many : (l : ℕ) {m : ℕ} → m ≡ new_darts (length P.lambda) (each P.lambda) l → m ≡ new_darts P.N (each P.lambda) l
  many l is = is ∙ ap (λ (x : ℕ). new_darts x (each P.lambda) l) long.0

pub returns-in_err-lent : goal.returns-in_err-lent
returns-in_err-lent c =
    let both = sizes_refused _ _ _ _ c.in_err-lent.field-0.0 (told (sized c.args.pyramid.now.sizes c.lent.ensures c.row_fits.ensures) c.in_err-lent.was) in
    rw (passed_on c.from_residual.result c.from_residual.ensures.1) (record { verdict = both.0; table_left = both.1 })

pub returns-in_err-check : goal.returns-in_err-check
returns-in_err-check c =
    let both = check_refused _ _ _ _ (told (sized c.args.pyramid.now.sizes c.lent.ensures c.row_fits.ensures) c.in_ok-lent.was) c.check.ensures.table_left c.in_err-check.field-0.0 (told c.check.ensures.verdict c.in_err-check.was) in
    rw (passed_on c.from_residual-in_err-check.result c.from_residual-in_err-check.ensures.1) (record { verdict = both.0; table_left = both.1 })

pub returns-then-lt : goal.returns-then-lt
returns-then-lt c =
    let both = no_level _ _ _ _ (told (sized c.args.pyramid.now.sizes c.lent.ensures c.row_fits.ensures) c.in_ok-lent.was) c.check.ensures.table_left (told c.check.ensures.verdict c.in_ok-check.was) (level_above _ _ (sym c.lt.ensures ∙ c.if-lt.true)) in
    record { verdict = both.0; table_left = both.1 }

pub survivors_on-requires : goal.survivors_on-requires
survivors_on-requires c = let a = c.args in omega (arith, long (folded a.pyramid.now) a.table.now (told c.check.ensures.verdict c.in_ok-check.was))

pub returns-then-survivors_on-eq0 : goal.returns-then-survivors_on-eq0
returns-then-survivors_on-eq0 c =
    let a = c.args in
    let checked = told c.check.ensures.verdict c.in_ok-check.was in
    let both = no_dart _ _ _ _ (told (sized a.pyramid.now.sizes c.lent.ensures c.row_fits.ensures) c.in_ok-lent.was) c.check.ensures.table_left checked (ge_from_not_lt _ _ (sym c.lt.ensures ∙ c.if-lt.false)) (sym (many (folded a.pyramid.now) a.table.now checked a.level.0 c.survivors_on.ensures) ∙ c.if-survivors_on-eq0.true) in
    record { verdict = both.0; table_left = both.1 }

pub returns : goal.returns
returns c =
    let a = c.args in
    let checked = told c.check.ensures.verdict c.in_ok-check.was in
    let both = all_passed _ _ _ _ (told (sized a.pyramid.now.sizes c.lent.ensures c.row_fits.ensures) c.in_ok-lent.was) c.check.ensures.table_left checked (ge_from_not_lt _ _ (sym c.lt.ensures ∙ c.if-lt.false)) (λ z. c.if-survivors_on-eq0.false (many (folded a.pyramid.now) a.table.now checked a.level.0 c.survivors_on.ensures ∙ z)) in
    record { verdict = both.0; table_left = both.1 }
