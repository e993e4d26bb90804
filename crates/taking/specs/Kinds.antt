-- What a tag says. Assumes nothing: these are definitions.
use Rattle.std.specs.Prelude.{Bool, true, false, cond, ◌&&◌, ℕ, ◌+◌, ◌-◌, ◌≤◌, leb, eqb, Option, Some, None}
use Rattle.taking.specs.declared.unpacking.Kind.{Kind}
use Rattle.taking.specs.declared.unpacking.Kind.TheVariants.{Header, Wide, Narrow, Lambda, Delta}

-- is x one of low to high
abbrev pub within : ℕ → ℕ → ℕ → Bool
within low high x = leb low x && leb x high

-- 0x10 to 0x14 rows of two bytes an entry, 0x20 to 0x24 of one byte, 0x01 the header, 0x30 Λ, 0x31 Δ; another tag says nothing
abbrev pub kind_of : ℕ → Option Kind
kind_of t =
    cond (within 0x10 0x14 t) (Some (Wide (record { 0 = t - 0x10 })))
    (cond (within 0x20 0x24 t) (Some (Narrow (record { 0 = t - 0x20 })))
    (cond (eqb t 0x01) (Some Header) (cond (eqb t 0x30) (Some Lambda) (cond (eqb t 0x31) (Some Delta) None))))

-- the tag of a kind
abbrev pub tag_of : Kind → ℕ
tag_of Header = 0x01
tag_of (Wide i) = 0x10 + i.0
tag_of (Narrow i) = 0x20 + i.0
tag_of Lambda = 0x30
tag_of Delta = 0x31

-- the kinds that a field may be due with
abbrev pub Due : Kind → Type 0
Due Header = Unit {0}
Due (Wide i) = i.0 ≤ 4
Due (Narrow i) = i.0 ≤ 4
Due Lambda = Unit {0}
Due Delta = Unit {0}

-- a test says whether a statement holds
abbrev pub Says : Bool → Type 0 → Type 0
Says true holds = holds
Says false holds = holds → ⊥
