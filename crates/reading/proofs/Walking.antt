-- The direct walk, read by read, by what the code tests. Assumes nothing.
use mathlib.Core.Path.{◌≡◌, refl, sym, ap, ◌∙◌}
use mathlib.Core.Bool.{Bool, true, false, cond, not}
use Prim.Native.Nat.{ℕ, suc, ◌+◌, ◌-◌, ◌*◌, ◌≤◌, ◌<◌, max}
use lib.ListN.{length}
use native.Mathlib.Numerals.{add-one}
use native.Mathlib.Omega.{arith}
use lib.Dec.{eqb}
use borrow.Author.Tests.{lt-ltb, le-ltb, not-false}
use Rattle.maps.specs.Mark.{is_mark, stay, between, can_pass, across}
use Rattle.maps.specs.Table.{entry, each}
use Rattle.maps.specs.Folded.{refused_marks, Folded, base, lambda_of, delta_of}
use Rattle.maps.specs.Walk.{Walked, ended, stopped, walk_from, walk, walk_at}
use Rattle.maps.specs.Trail.{since_of, trail_from, trail, since, since_at}
use Rattle.maps.specs.Read.{found, none, reading_of, if_found}
use Rattle.laws.proofs.Marks.{mark_byte, mark_rows}
use Rattle.laws.proofs.Tables.{in_table, table_size}
use Rattle.questions.specs.Lent.{Lent}
use Rattle.reading.specs.Walks.{Allowed, Meets}

-- of a dart that is gone the mark alone is tested
pub gone_marks : (n h lambda delta l : ℕ) → l ≤ h → lambda < l → refused_marks n h lambda delta ≡ not (is_mark n delta)
gone_marks n h lambda delta l f g = rw (le-ltb h lambda (omega arith), lt-ltb lambda h (omega arith))

-- a walk goes on by a row of the map
across_row : (n mark t : ℕ) → is_mark n mark ≡ true → across mark t ≤ n
across_row n mark t q = go (eqb t (between mark).0)
  where
    go : (x : Bool) → cond x (between mark).1 (between mark).0 ≤ n
    go true = (mark_rows n mark q).second
    go false = (mark_rows n mark q).first

-- the entry of row t and dart d lies in the rows, which are few
pub entry_fits : {f : Folded} {l t d : ℕ} → Lent f l → t ≤ f.n → d < f.N → (t * f.N + d < length f.rows) × (length f.rows ≤ 20480)
entry_fits {f} {l} {t} {d} p x y =
    let z = table_size f.n f.N t p.dimension p.darts x in
    let q = in_table f.n f.N t d x y in
    let r = p.rows_length in
    (omega arith, omega arith)

-- what a walk that stops gives
pub stop_says : {w : Walked} {number row dart : ℕ} {l : ℕ} (stands : ℕ) → w ≡ stopped number row dart → (none number l row dart ≡ reading_of l w) × (0 ≡ if_found (reading_of l w) stands)
stop_says stands e = rw e (refl, refl)

-- and one that ends
pub end_says : {w : Walked} {row dart count s stands : ℕ} (l : ℕ) → w ≡ ended row dart count → s ≡ stands → (found dart count ≡ reading_of l w) × (s ≡ if_found (reading_of l w) stands)
end_says l e f = rw e (refl, f)

-- row t of dart d is read next, after c reads, and s is the level so far: the whole walk is the rest of it, and so are the darts it passes
pub record Next (f : Folded) (l i b t d c s : ℕ) : Type 0 where
  pub row : t ≤ f.n
  pub dart : d < f.N
  pub few : c < 1 + 2 * f.N
  pub same : walk_at f l i b ≡ walk_from (base f) f.n f.N f.h (lambda_of f) (delta_of f) l i b (1 + 2 * f.N - c) t d c
  pub raised : since_at f l i b ≡ max s (since_of (lambda_of f) (trail_from (base f) f.N (lambda_of f) (delta_of f) l (1 + 2 * f.N - c) t d))

pub next_first : (f : Folded) (l i b : ℕ) → i ≤ f.n → b < f.N → Next f l i b i b 0 0
unfolding walk since trail
next_first f l i b x y =
    let k : 1 + 2 * f.N ≡ 1 + 2 * f.N - 0 = omega arith in
    let passed : ℕ → ℕ = λ z. since_of (lambda_of f) (trail_from (base f) f.N (lambda_of f) (delta_of f) l z i b) in
    record { row = x; dart = y; few = omega arith; same = ap (λ (z : ℕ). walk_from (base f) f.n f.N f.h (lambda_of f) (delta_of f) l i b z i b 0) k; raised = omega (arith, ap passed k) }

module _ {f : Folded} {l i b t d c so_far : ℕ} (s : Next f l i b t d c so_far) where
  open f use {n, N, h, rows, lambda, delta}

  abbrev the_walk : Walked
  the_walk = walk_at f l i b

  abbrev rest : ℕ → ℕ → ℕ → ℕ → Walked
  rest = walk_from (base f) n N h (lambda_of f) (delta_of f) l i b

  abbrev stands : ℕ
  stands = since_at f l i b

  -- the level that the darts give which are passed from row u of dart x on, with k reads left
  abbrev passed : ℕ → ℕ → ℕ → ℕ
  passed k u x = since_of (each lambda) (trail_from (entry N rows) N (each lambda) (each delta) l k u x)

  -- what one read gives is what the walk gives
  one_read : {w : Walked} → rest (suc (2 * N - c)) t d c ≡ w → the_walk ≡ w
  one_read e = let f = s.few in let k : 1 + 2 * N - c ≡ suc (2 * N - c) = omega arith in s.same ∙ ap (λ (z : ℕ). rest z t d c) k ∙ e

  -- and for the darts passed
  one_passed : {x : ℕ} → passed (suc (2 * N - c)) t d ≡ x → stands ≡ max so_far x
  one_passed e = let f = s.few in let k : 1 + 2 * N - c ≡ suc (2 * N - c) = omega arith in s.raised ∙ ap (λ (z : ℕ). max so_far (passed z t d)) k ∙ ap (max so_far) e

  -- the entry read is e
  module _ {e : ℕ} (r : e ≡ entry N rows t d) where
    pub strays : N ≤ e → the_walk ≡ stopped 5 t d
    unfolding walk_from
    strays x = one_read (simp (← r, le-ltb e N x, walk_from))

    module _ (x : e < N) where
      pub bad_marks : refused_marks n h (each lambda e) (each delta e) ≡ true → the_walk ≡ stopped 8 t e
      unfolding walk_from
      bad_marks q = one_read (simp (← r, lt-ltb e N x, q, walk_from))

      pub arrives : refused_marks n h (each lambda e) (each delta e) ≡ false → l ≤ each lambda e → the_walk ≡ ended t e (c + 1)
      unfolding walk_from
      arrives q y = one_read (simp (← r, lt-ltb e N x, q, le-ltb (each lambda e) l y, walk_from, add-one))

    -- it passes no dart more
    pub arrived : l ≤ each lambda e → so_far ≡ stands
    unfolding since_of trail_from
    arrived y = let z = one_passed {x = 0} (simp (← r, le-ltb (each lambda e) l y, trail_from, since_of)) in omega (arith, z)

  -- the dart read is e, which is not on the level and whose marks are allowed
  module _ {e : ℕ} (m : Meets f l t d e) (low : l ≤ h) (q : refused_marks n h (each lambda e) (each delta e) ≡ false) where
    is_mark_lem : is_mark n (each delta e) ≡ true
    is_mark_lem = not-false (is_mark n (each delta e)) (sym (gone_marks n h (each lambda e) (each delta e) l low m.gone) ∙ q)

    pub met_byte : n ≤ 4 → each delta e < stay
    met_byte f = mark_byte n (each delta e) (omega arith) is_mark_lem

    pub no_pass : can_pass (each delta e) t ≡ false → the_walk ≡ stopped 14 t e
    unfolding walk_from
    no_pass p = one_read (simp (← m.read, lt-ltb e N m.dart, q, lt-ltb (each lambda e) l m.gone, p, walk_from))

    module _ (p : can_pass (each delta e) t ≡ true) where
      goes_on_lem : the_walk ≡ rest (2 * N - c) (across (each delta e) t) e (c + 1)
      unfolding walk_from
      goes_on_lem = one_read (simp (← m.read, lt-ltb e N m.dart, q, lt-ltb (each lambda e) l m.gone, p, walk_from, add-one))

      goes_later : stands ≡ max so_far (max (suc (each lambda e)) (passed (2 * N - c) (across (each delta e) t) e))
      unfolding since_of trail_from
      goes_later = one_passed (simp (← m.read, lt-ltb (each lambda e) l m.gone, trail_from, since_of))

      pub long : c + 1 ≡ 1 + 2 * N → the_walk ≡ stopped 15 i b
      unfolding walk_from
      long k = let z : 2 * N - c ≡ 0 = omega arith in goes_on_lem ∙ ap (λ (x : ℕ). rest x (across (each delta e) t) e (c + 1)) z

      pub passes : (c + 1 ≡ 1 + 2 * N → ⊥) → {u raise : ℕ} → u ≡ across (each delta e) t → raise ≡ max so_far (each lambda e + 1) → Next f l i b u e (c + 1) raise
      passes k v y =
          let f = s.few in
          let z : 2 * N - c ≡ 1 + 2 * N - (c + 1) = omega arith in
          rw (v, y) record { row = across_row n (each delta e) t is_mark_lem; dart = m.dart; few = omega arith; same = goes_on_lem ∙ ap (λ (x : ℕ). rest x (across (each delta e) t) e (c + 1)) z; raised = omega (arith, goes_later, ap (λ (x : ℕ). passed x (across (each delta e) t) e) z) }

-- dart e, which is not on the level, was met by row t with read number c, and s is the level once it is passed
pub record Met (f : Folded) (l i b t e c s : ℕ) : Type 0 where
  pub source : ℕ
  pub before : ℕ
  pub so_far : ℕ
  pub next : Next f l i b t source before so_far
  pub reads : c ≡ before + 1
  pub meets : Meets f l t source e
  pub raise : s ≡ max so_far (lambda_of f e + 1)

pub met_first : {f : Folded} {l i b e : ℕ} → Meets f l i b e → Met f l i b i e 1 (lambda_of f e + 1)
met_first {f} {l} {i} {b} m = record { source = b; before = 0; so_far = 0; next = next_first f l i b m.row m.start; reads = refl; meets = m; raise = omega arith }

-- where all marks are allowed
module _ {f : Folded} {l i b t e c later : ℕ} (p : Allowed f l) (s : Met f l i b t e c later) where
  pub met_mark : delta_of f e < stay
  met_mark = met_byte s.next s.meets p.lent.level (p.allowed e s.meets.dart) p.lent.dimension

  pub met_no_pass : can_pass (delta_of f e) t ≡ false → walk_at f l i b ≡ stopped 14 t e
  met_no_pass q = no_pass s.next s.meets p.lent.level (p.allowed e s.meets.dart) q

  pub met_long : can_pass (delta_of f e) t ≡ true → c ≡ 1 + 2 * f.N → walk_at f l i b ≡ stopped 15 i b
  met_long q k = long s.next s.meets p.lent.level (p.allowed e s.meets.dart) q (sym s.reads ∙ k)

  pub met_passes : can_pass (delta_of f e) t ≡ true → (c ≡ 1 + 2 * f.N → ⊥) → {u : ℕ} → u ≡ across (delta_of f e) t → Next f l i b u e c later
  met_passes q k v = rw s.reads (passes s.next s.meets p.lent.level (p.allowed e s.meets.dart) q (λ z. k (s.reads ∙ z)) v s.raise)
