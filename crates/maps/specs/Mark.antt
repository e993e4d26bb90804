-- Marks of darts, and what a mark lets a walk do. Assumes nothing: these are definitions.
use Rattle.std.specs.Prelude.{Bool, cond, ◌&&◌, ◌||◌, ℕ, ◌+◌, ◌-◌, eqb, ltb}

-- Scope: 'Mark rows'. A contraction of dimension δ is stored as 8+δ.
abbrev pub contracts : ℕ → Bool
contracts mark = ltb 8 mark

-- Scope: 'Mark rows'. A byte is a mark if it is below n, remove, or from 9 to 8+n, contract.
unfoldable pub is_mark : ℕ → ℕ → Bool
is_mark n mark = ltb mark n || (contracts mark && ltb mark (9 + n))

-- Scope: 'Mark rows'. 255 says that the dart stays.
abbrev pub stay : ℕ
stay = 255

-- Scope: 'Mark rows'. Up to this n a byte says one thing: marks and 255 are apart.
abbrev pub widest : ℕ
widest = 9

-- Scope: 'Direct walk'. The two rows between which a mark lets a walk pass its dart, from either to the other: δ and δ+1 for a removed one, δ and δ−1
-- for a contracted one. The first is the dimension.
unfoldable pub between : ℕ → ℕ × ℕ
between mark = cond (contracts mark) (mark - 8, mark - 8 - 1) (mark, mark + 1)

-- Scope: 'Direct walk'. The lower of the two; the other is the next.
unfoldable pub lower : ℕ → ℕ
lower mark = cond (contracts mark) (mark - 8 - 1) mark

-- Scope: 'Cells that fit'. Is there a row that has to commute with the second of them?
unfoldable pub has_beyond : ℕ → ℕ → Bool
has_beyond n mark = cond (contracts mark) (ltb 1 (mark - 8)) (ltb (mark + 1) n)

-- Scope: 'Cells that fit'. That row: δ+2 for a removed one, δ−2 for a contracted one.
unfoldable pub beyond : ℕ → ℕ
beyond mark = cond (contracts mark) (mark - 8 - 2) (mark + 2)

-- Scope: 'Direct walk'. May a walk that came by row t pass a dart of this mark?
abbrev pub can_pass : ℕ → ℕ → Bool
can_pass mark t = eqb t (between mark).0 || eqb t (between mark).1

-- Scope: 'Direct walk'. The row by which it then goes on: the other of the two.
abbrev pub across : ℕ → ℕ → ℕ
across mark t = cond (eqb t (between mark).0) (between mark).1 (between mark).0
