-- Laws of values packed one after the other: none, one more, one passed over, and a whole row. Assumes nothing.
use mathlib.Core.Path.{◌≡◌, refl, sym, ap, ◌∙◌}
use mathlib.Core.Bool.{Bool, true, false, cond, true≢false}
use mathlib.Core.List.{List, ◌++◌}
use Prim.Native.Nat.{ℕ, suc, ◌+◌, ◌-◌, ◌*◌, ◌/◌, ◌%◌, ◌≤◌, ◌<◌}
use native.Mathlib.Nat.{mul-le-mul_left, mul-le-mul_right}
use native.Mathlib.Omega.{arith}
use lib.ListN.{length, get_or, set, take, drop, replicate, length-set, length-append, length-drop, length-replicate, get_or-replicate}
use lib.Seq.{get_or-set_same, get_or-set_other, length-take-le}
use lib.Dec.{eqb, ltb}
use borrow.Author.Tests.{eqb-true, eqb-false, ltb-true, ltb-false}
use borrow.Rule.Slice.PartMut.{put_mid}
use Rattle.std.proofs.Math.ListN.{get_or-append}
use Rattle.std.proofs.lemmas.List.{get_or-take, get_or-append_right}
use Rattle.maps.specs.Count.{one, count}
use Rattle.maps.specs.Table.{entry, each, listed}
use Rattle.maps.specs.Folded.{survives}
use Rattle.maps.specs.NewBase.{kth, rank, old_number, new_darts}
use Rattle.maps.specs.Rebase.{packed}
use Rattle.laws.proofs.Counting.{count_more, count_le}
use Rattle.laws.proofs.Tables.{listed_of, listed_same, get_or_listed, length_listed, next_row, place}
use Rattle.packing.specs.Packing.{Packs, Inside}
use Rattle.packing.proofs.Numbering.{count_passes, kth_is}

-- a count with one number more, which passes or does not
module _ (p : ℕ → Bool) (d : ℕ) where
  pub count_on_lem : p d ≡ true → count p (d + 1) ≡ count p d + 1
  count_on_lem q = count_more p d ∙ ap (λ (b : Bool). count p d + one b) q

  pub count_over : p d ≡ false → count p (d + 1) ≡ count p d
  count_over q = let e = count_more p d ∙ ap (λ (b : Bool). count p d + one b) q in omega arith

module _ (p : ℕ → Bool) (value : ℕ → ℕ) (at : ℕ) (before : List ℕ) where
  pub packs_none : Packs p value at 0 before before
  packs_none = record { long = refl; done = λ e l. absurd (omega arith); front = λ x l. refl; rest = λ x l. refl }

module _ {p : ℕ → Bool} {value : ℕ → ℕ} {at d : ℕ} {before after : List ℕ} (s : Packs p value at d before after) where
  -- a number that passes: its value is put behind the others
  pub packs_on : p d ≡ true → (next v : ℕ) → next ≡ at + count p d → next < length before → v ≡ value d → Packs p value at (d + 1) before (set after next v)
  packs_on q next v e l f =
      let more = count_on_lem p d q in
      record {
        long = length-set after next v ∙ s.long;
        done = λ x lx px. at_place x lx px (eqb x d) refl;
        front = λ x lx. get_or-set_other after next x v 0 (λ z. omega arith) ∙ s.front x lx;
        rest = λ x lx. get_or-set_other after next x v 0 (λ z. omega arith) ∙ s.rest x (omega arith);
      }
    where
      at_place : (x : ℕ) → x < d + 1 → p x ≡ true → (b : Bool) → eqb x d ≡ b → get_or (set after next v) (at + count p x) 0 ≡ value x
      at_place x lx px true z =
          let k : x ≡ d = eqb-true x d z in
          let m : at + count p d ≡ next = sym e in
          rw (k, m) (get_or-set_same after next v 0 (omega (arith, s.long)) ∙ f)
      at_place x lx px false z =
          let ne : x ≡ d → ⊥ = eqb-false x d z in
          let lower = count_passes p x d px (omega arith) in
          get_or-set_other after next (at + count p x) v 0 (λ k. omega arith) ∙ s.done x (omega arith) px

  -- a number that does not
  pub packs_over : p d ≡ false → Packs p value at (d + 1) before after
  packs_over q = record {
    long = s.long;
    done = λ x lx px. at_place x lx px (eqb x d) refl;
    front = s.front;
    rest = λ x lx. s.rest x (omega (arith, count_over p d q));
  }
    where
      at_place : (x : ℕ) → x < d + 1 → p x ≡ true → (b : Bool) → eqb x d ≡ b → get_or after (at + count p x) 0 ≡ value x
      at_place x lx px true z = let k : x ≡ d = eqb-true x d z in let c : true ≡ false = sym px ∙ ap p k ∙ q in absurd (true≢false c)
      at_place x lx px false z = let ne : x ≡ d → ⊥ = eqb-false x d z in s.done x (omega arith) px

  -- up to a number that is another name for d
  pub packs_all : {N : ℕ} → d ≡ N → Packs p value at N before after
  packs_all e = rw (← e) s

  -- by new numbers
  pub packs_kth : (k : ℕ) → k < count p d → get_or after (at + k) 0 ≡ value (kth p d k)
  packs_kth k l =
      let r = kth_is p d k l in
      ap (λ (x : ℕ). get_or after (at + x) 0) (sym r.ranked) ∙ s.done (kth p d k) r.below r.passes

  -- a place that is not yet reached is as it was
  pub packs_here : at ≡ 0 → get_or after d 0 ≡ get_or before d 0
  packs_here z = s.rest d (omega (arith, count_le p d))

  pub packs_ahead : (from : ℕ) → at ≤ from → get_or after (from + d) 0 ≡ get_or before (from + d) 0
  packs_ahead from l = s.rest (from + d) (omega (arith, count_le p d))

-- what is packed in place has this length
pub packed_long : (f : ℕ → ℕ) (m filler size : ℕ) → length (packed f m filler size) ≡ size
unfolding packed
packed_long f m filler size = length_listed _ size

-- other names for the same values
pub packed_same : (f g : ℕ → ℕ) (m filler size : ℕ) → ((x : ℕ) → x < m → f x ≡ g x) → packed f m filler size ≡ packed g m filler size
unfolding packed
packed_same f g m filler size same = listed_same _ _ size (λ x l. go x (ltb x m) refl)
  where
    go : (x : ℕ) (b : Bool) → ltb x m ≡ b → cond (ltb x m) (f x) filler ≡ cond (ltb x m) (g x) filler
    go x true q = rw q (same x (ltb-true x m q))
    go x false q = rw q

-- a row that is packed from its start, and filled behind
pub packs_filled : {p : ℕ → Bool} {value : ℕ → ℕ} {N : ℕ} {before mid after : List ℕ} (m filler : ℕ) → Packs p value 0 N before mid → m ≡ count p N → after ≡ packed (each mid) m filler (length mid)
    → after ≡ packed (λ k. value (kth p N k)) (count p N) filler (length before)
packs_filled {p} {value} {N} {before} {mid} m filler s e f =
    rw (← e)
    (f ∙ ap (packed (each mid) m filler) s.long ∙ packed_same (each mid) (λ k. value (kth p N k)) m filler (length before) (λ k l. let z : 0 + k ≡ k = omega arith in rw z at (packs_kth s k (omega arith))))

-- the places before `from` are as they were, from there to d they hold the filler
pub record Filled (filler from d : ℕ) (before after : List ℕ) : Type 0 where
  pub long : length after ≡ length before
  pub front : (x : ℕ) → x < from → get_or after x 0 ≡ get_or before x 0
  pub done : (x : ℕ) → from ≤ x → x < d → get_or after x 0 ≡ filler

pub filled_none : (filler from : ℕ) (before : List ℕ) → Filled filler from from before before
filled_none filler from before = record { long = refl; front = λ x l. refl; done = λ x l k. absurd (omega arith) }

pub filled_more : {filler from d : ℕ} {before after : List ℕ} → Filled filler from d before after → from ≤ d → d < length before → Filled filler from (d + 1) before (set after d filler)
filled_more {filler} {from} {d} {before} {after} s k l = record {
  long = length-set after d filler ∙ s.long;
  front = λ x f. get_or-set_other after d x filler 0 (λ z. omega arith) ∙ s.front x f;
  done = λ x f g. at_place x f g (eqb x d) refl;
}
  where
    at_place : (x : ℕ) → from ≤ x → x < d + 1 → (b : Bool) → eqb x d ≡ b → get_or (set after d filler) x 0 ≡ filler
    at_place x f g true z = let e : x ≡ d = eqb-true x d z in rw e (get_or-set_same after d filler 0 (omega (arith, s.long)))
    at_place x f g false z = let ne : x ≡ d → ⊥ = eqb-false x d z in get_or-set_other after d x filler 0 ne ∙ s.done x f (omega arith)

-- all of it
pub filled_all : {filler from d : ℕ} {before after : List ℕ} → Filled filler from d before after → length before ≤ d → after ≡ packed (each before) from filler (length before)
unfolding packed
filled_all {filler} {from} {d} {before} {after} s l = listed_of _ (length before) after s.long (λ x f. go x f (ltb x from) refl)
  where
    go : (x : ℕ) → x < length before → (b : Bool) → ltb x from ≡ b → get_or after x 0 ≡ cond (ltb x from) (each before x) filler
    go x f true q = rw q (s.front x (ltb-true x from q))
    go x f false q = rw q (s.done x (ltb-false x from q) (omega arith))

-- a row that is filled from a place on
module _ (filler from : ℕ) (before : List ℕ) (low : from ≤ length before) {part : List ℕ} (is : part ≡ replicate (length (take (length before - from) (drop from before))) filler) where
  front-long : length (take from before) ≡ from
  front-long = length-take-le from before low

  many : length (take (length before - from) (drop from before)) ≡ length before - from
  many = length-take-le (length before - from) (drop from before) (omega (arith, length-drop from before))

  part-long : length part ≡ length before - from
  part-long = ap length is ∙ length-replicate (length (take (length before - from) (drop from before))) filler ∙ many

  pub filled_behind : put_mid from (length before - from) before part ≡ packed (each before) from filler (length before)
  unfolding packed
  filled_behind = listed_of _ (length before) _ long (λ x l. at_place x l (ltb x from) refl)
    where
      nothing : List ℕ
      nothing = drop (length before - from) (drop from before)

      long : length (take from before ++ (part ++ nothing)) ≡ length before
      long = simp (length-append, length-drop) (omega (arith, front-long, part-long, length-drop (length before - from) (drop from before), length-drop from before))

      at_place : (x : ℕ) → x < length before → (b : Bool) → ltb x from ≡ b → get_or (take from before ++ (part ++ nothing)) x 0 ≡ cond (ltb x from) (each before x) filler
      at_place x l true q =
          let f = ltb-true x from q in
          rw q (get_or-append (take from before) (part ++ nothing) 0 x (omega (arith, front-long)) ∙ get_or-take from before x 0 f)
      at_place x l false q =
          let f = ltb-false x from q in
          rw q (get_or-append_right (take from before) (part ++ nothing) from x 0 front-long f ∙ get_or-append part nothing 0 (x - from) (omega (arith, part-long)) ∙ ap (λ (y : List ℕ). get_or y (x - from) 0) is ∙ get_or-replicate (length (take (length before - from) (drop from before))) (x - from) filler 0 (omega (arith, many)))

-- rows packed one after the other
module _ (Λ : ℕ → ℕ) (l N : ℕ) where
  abbrev M : ℕ
  M = new_darts N Λ l

  -- the rows before i are packed, those from i on are as they were
  pub record Rows (i : ℕ) (before after : List ℕ) : Type 0 where
    pub long : length after ≡ length before
    pub done : (j e : ℕ) → j < i → e < N → survives Λ l e ≡ true → get_or after (j * M + rank Λ l e) 0 ≡ rank Λ l (entry N before j e)
    pub rest : (x : ℕ) → i * N ≤ x → get_or after x 0 ≡ get_or before x 0

  pub rows_none : (before : List ℕ) → Rows 0 before before
  rows_none before = record { long = refl; done = λ j e f. absurd (omega arith); rest = λ x f. refl }

  -- rows of the new length are no longer
  pub shorter : (i : ℕ) → i * M ≤ i * N
  shorter i = mul-le-mul_left i (count_le (survives Λ l) N)

  -- one row more
  pub rows_more : {i : ℕ} {before mid after ranks : List ℕ} → Rows i before mid → ranks ≡ listed (rank Λ l) N → Inside Λ l N N (entry N before i)
      → Packs (survives Λ l) (λ d. each ranks (get_or mid (i * N + d) 0)) (i * M) N mid after → Rows (i + 1) before after
  rows_more {i} {before} {mid} {after} {ranks} s e inside t =
      let nM = next_row i M in
      let nN = next_row i N in
      let few = count_le (survives Λ l) N in
      record {
        long = t.long ∙ s.long;
        done = λ j d lj ld q. at_row j d lj ld q (eqb j i) refl;
        rest = λ x f. t.rest x (omega (arith, shorter i)) ∙ s.rest x (omega arith);
      }
    where
      at_row : (j d : ℕ) → j < i + 1 → d < N → survives Λ l d ≡ true → (b : Bool) → eqb j i ≡ b → get_or after (j * M + rank Λ l d) 0 ≡ rank Λ l (entry N before j d)
      at_row j d lj ld q true z =
          let k : j ≡ i = eqb-true j i z in
          let old : get_or mid (i * N + d) 0 ≡ entry N before i d = s.rest (i * N + d) (omega arith) in
          rw k (t.done d ld q ∙ ap (each ranks) old ∙ ap (λ (r : List ℕ). each r (entry N before i d)) e ∙ get_or_listed (rank Λ l) N (entry N before i d) 0 (inside d ld q))
      at_row j d lj ld q false z =
          let ne : j ≡ i → ⊥ = eqb-false j i z in
          let below : (j + 1) * M ≤ i * M = mul-le-mul_right M (omega arith) in
          t.front (j * M + rank Λ l d) (omega (arith, next_row j M, count_passes (survives Λ l) d N q ld)) ∙ s.done j d (omega arith) ld q

  -- all rows, and filled behind
  pub rows_filled : {n : ℕ} {before mid after : List ℕ} (filler : ℕ) → Rows (suc n) before mid → after ≡ packed (each mid) (suc n * M) filler (length mid)
      → after ≡ packed (λ x. rank Λ l (entry N before (x / M) (old_number N Λ l (x % M)))) (suc n * M) filler (length before)
  rows_filled {n} {before} {mid} filler s f =
      f ∙ ap (packed (each mid) (suc n * M) filler) s.long
      ∙ packed_same (each mid) (λ x. rank Λ l (entry N before (x / M) (old_number N Λ l (x % M)))) (suc n * M) filler (length before) at_place
    where
      at_place : (x : ℕ) → x < suc n * M → each mid x ≡ rank Λ l (entry N before (x / M) (old_number N Λ l (x % M)))
      at_place x lx =
          let w = place n M x lx in
          let r = kth_is (survives Λ l) N (x % M) w.1 in
          ap (λ (y : ℕ). get_or mid y 0) (sym w.2) ∙ ap (λ (y : ℕ). get_or mid (x / M * M + y) 0) (sym r.ranked)
          ∙ s.done (x / M) (old_number N Λ l (x % M)) (omega (arith, w.0)) r.below r.passes
