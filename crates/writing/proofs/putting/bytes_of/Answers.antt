-- `writing::putting::bytes_of` meets its contract. Assumes nothing.
use mathlib.Core.Path.{◌≡◌, ap}
use native.Mathlib.Omega.{arith}
use lib.ListN.{length}
use Rattle.maps.specs.Record.{byte}
use Rattle.maps.specs.Write.{in_two_bytes}
use Rattle.taking.proofs.Fields.{length_two}
use Rattle.taking.proofs.Laid.{laid_same, laid_all}
use Rattle.writing.proofs.putting.bytes_of.Goals as goal

pub returns : goal.returns
returns c =
    let list = in_two_bytes c.args.part.now in
    let e : 128 ≡ length list = omega (arith, length_two c.args.part.now, c.told-part) in
    laid_all list (laid_same c.put_few.ensures.laid (λ d f. ap (byte list) (omega arith))) e
