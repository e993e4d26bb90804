-- What an accepted row tells. Assumes nothing.
use mathlib.Core.Path.{◌≡◌}
use mathlib.Core.Bool.{◌&&◌}
use mathlib.Core.List.{List}
use Prim.Native.Nat.{ℕ, suc, ◌*◌, ◌≤◌}
use lib.Dec.{ltb}
use borrow.Author.Tests.{ltb-false}
use Rattle.maps.specs.Verdict.{accepted, ◌then◌}
use Rattle.maps.specs.Sizes.{sizes, number4, number11, number13, has_length}
use Rattle.maps.specs.Row.{row_lent}
use Rattle.laws.proofs.Tables.{table_size}
use Rattle.laws.proofs.Verdicts.{then_accepted, when_accepted}
use Rattle.laws.proofs.Sizes.{sizes_sized}

-- the start of an accepted row is a small number
pub row_start : (n N h : ℕ) (base unfolded : List ℕ) (l i : ℕ) → row_lent n N h base unfolded l i ≡ accepted → i * N ≤ 16384
unfolding row_lent number13
row_start n N h base unfolded l i e =
    let exact = has_length base (suc n * N) && has_length unfolded (suc n * N) in
    let r = then_accepted (sizes n N h) (number4 exact then (number11 h l i 0 then number13 n l i 0)) e in
    let s = then_accepted (number4 exact) (number11 h l i 0 then number13 n l i 0) r.1 in
    let t = then_accepted (number11 h l i 0) (number13 n l i 0) s.1 in
    let z = sizes_sized n N h r.0 in
    (table_size n N i z.dimension z.darts (ltb-false n i (when_accepted (ltb n i) 13 l i 0 t.1))).0
