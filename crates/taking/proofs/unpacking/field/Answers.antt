-- `taking::field` meets its contract: each return rewrites with the tests that led there. Assumes nothing.
use mathlib.Core.Bool.{true, false, not}
use mathlib.Core.Path.{◌≡◌, sym, ap, ◌∙◌}
use Prim.Native.Nat.{◌+◌}
use native.Mathlib.Omega.{arith}
use lib.Dec.{eqb, leb, ltb}
use lib.ListN.{length}
use borrow.Author.Tests.{le-leb, lt-leb, lt-ltb, le-ltb, eq-eqb, ne_eqb}
use borrow.Author.Rules.{rules}
use Rattle.std.specs.Prelude.{Some}
use Rattle.maps.specs.Record.{byte, two_bytes, field}
use Rattle.taking.specs.Kinds.{tag_of, Says}
use Rattle.taking.proofs.Tags.{due_tag}
use Rattle.taking.proofs.unpacking.field.Goals.{After-ne, Else-ne, After-from_le_bytes, Else-from_le_bytes-size}
use Rattle.taking.proofs.unpacking.field.Goals as goal

-- is the kind the one that is due
says : (c : After-ne) → Says (not c.ne.result) (c.kind_of.result ≡ Some c.args.due)
says c = search rules

-- is the tag
due : (c : After-ne) → let a = c.args in not c.ne.result ≡ eqb (byte a.bytes.now a.at) (tag_of a.due)
due c = due_tag (byte c.args.bytes.now c.args.at) c.args.due (not c.ne.result) c.requires.2 (rw c.kind_of.ensures at (says c))

-- the tag is there, and due
tagged : (c : Else-ne) → let a = c.args in (leb (length a.bytes.now) a.at ≡ false) × (eqb (byte a.bytes.now a.at) (tag_of a.due) ≡ true)
tagged c = let a = c.args in (lt-leb (length a.bytes.now) a.at (omega arith), sym (due (goal.at.Else-ne c).After-ne) ∙ ap not c.if-ne.false)

-- the length is there, low byte first
size-is : (c : After-from_le_bytes) → let a = c.args in c.from_le_bytes.result ≡ two_bytes a.bytes.now (a.at + 1)
size-is c = let e : c.args.at + 1 + 1 ≡ c.args.at + 2 = omega arith in rw e (omega (arith, c.from_le_bytes.ensures))

-- and it is the one that is due
sized : (c : Else-from_le_bytes-size) → let a = c.args in (ltb (length a.bytes.now) (a.at + 3) ≡ false) × (eqb (two_bytes a.bytes.now (a.at + 1)) a.size ≡ true)
sized c =
    let a = c.args in
    (le-ltb (length a.bytes.now) (a.at + 3) (omega arith), eq-eqb (two_bytes a.bytes.now (a.at + 1)) a.size (sym (size-is (goal.at.Else-from_le_bytes-size c).After-from_le_bytes) ∙ c.if-from_le_bytes-size.false))

pub returns-then-bytes-start : goal.returns-then-bytes-start
unfolding field
returns-then-bytes-start c = let a = c.args in simp (le-leb (length a.bytes.now) a.at (omega arith))

pub returns-then-ne : goal.returns-then-ne
unfolding field
returns-then-ne c =
    let a = c.args in
    simp (lt-leb (length a.bytes.now) a.at (omega arith), sym (due (goal.at.returns-then-ne c).After-ne) ∙ ap not c.if-ne.true)

pub returns-then-bytes-start-2 : goal.returns-then-bytes-start-2
unfolding field
returns-then-bytes-start-2 c =
    let a = c.args in
    let t = tagged (goal.at.returns-then-bytes-start-2 c).Else-ne in
    simp (t.0, t.1, lt-ltb (length a.bytes.now) (a.at + 3) (omega arith))

pub returns-then-from_le_bytes-size : goal.returns-then-from_le_bytes-size
unfolding field
returns-then-from_le_bytes-size c =
    let a = c.args in
    let at = goal.at.returns-then-from_le_bytes-size c in
    let t = tagged at.Else-ne in
    simp (t.0, t.1, le-ltb (length a.bytes.now) (a.at + 3) (omega arith), ne_eqb (two_bytes a.bytes.now (a.at + 1)) a.size (λ q. c.if-from_le_bytes-size.true (size-is at.After-from_le_bytes ∙ q)))

pub returns-then-bytes-start-3 : goal.returns-then-bytes-start-3
unfolding field
returns-then-bytes-start-3 c =
    let a = c.args in
    let at = goal.at.returns-then-bytes-start-3 c in
    let t = tagged at.Else-ne in
    let z = sized at.Else-from_le_bytes-size in
    simp (t.0, t.1, z.0, z.1, lt-ltb (length a.bytes.now) (a.at + 3 + a.size) (omega arith))

pub returns : goal.returns
unfolding field
returns c =
    let a = c.args in
    let at = goal.at.returns c in
    let t = tagged at.Else-ne in
    let z = sized at.Else-from_le_bytes-size in
    simp (t.0, t.1, z.0, z.1, le-ltb (length a.bytes.now) (a.at + 3 + a.size) (omega arith))
