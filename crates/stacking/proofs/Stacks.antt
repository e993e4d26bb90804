-- The levels one behind the other, in their blocks: two blocks at a time, and what a kernel accepted or refused leaves of them. Assumes nothing.
use mathlib.Core.Path.{◌≡◌, refl, sym, ap, subst, ◌∙◌}
use mathlib.Core.Bool.{Bool, true, false}
use mathlib.Core.List.{List, [], ◌++◌, append-nil, append_assoc}
use Prim.Native.Nat.{ℕ, zero, suc, ◌+◌, ◌-◌, ◌*◌, ◌≤◌, ◌<◌}
use native.Mathlib.Nat.{suc-mul, mul-le-mul_right}
use native.Mathlib.Numerals.{add-one}
use native.Mathlib.Omega.{arith}
use lib.ListN.{length, take, drop, length-append, length-drop, get_or, set, get_or-append}
use lib.Seq.{take-take, take_all, drop-drop, take_at, drop_at, drop-length, drop-append-add, drop-append_seam, drop-append-le, take-append-le, length-take-le, get_or-take, paste, paste-suc}
use lib.Dec.{eqb}
use borrow.Author.Tests.{eqb-true, eqb-false}
use borrow.Rule.Slice.PartMut.{put_mid, put_same}
use Rattle.maps.specs.Verdict.{Verdict, accepted, scan}
use Rattle.maps.specs.Table.{entry, each}
use Rattle.maps.specs.Folded.{survives, marks, level, Folded, base, lambda_of, delta_of}
use Rattle.maps.specs.Check.{check_kernel, kernel_at, check_kernels}
use Rattle.maps.specs.CheckPyramid.{table_at}
use Rattle.maps.specs.UnfoldAll.{stacked, blocks_left}
use Rattle.maps.specs.Explicit.{present, There}
use Rattle.laws.proofs.Verdicts.{not_refused}
use Rattle.laws.proofs.Tables.{length_explicit, next_row}
use Rattle.facts.proofs.Checks.{kernel_sound}
use Rattle.facts.proofs.Climbing.{base_table}
use Rattle.answers.specs.Numbers.{refusal_of}
use Rattle.answers.specs.declared.Refusal.{Refusal}
use Rattle.answers.proofs.Refusals.{refusal_refuses, refusal_keeps}
use Rattle.kernels.specs.Strings.{kernel_row, Linked, Strung}
use Rattle.kernels.specs.Ready.{Tested, Ready, removed_from}
use Rattle.climbing.specs.Climb.{Base, climbs, Climbed}
use Rattle.climbing.proofs.Verdicts.{Says, Late, passed, says, kernel_late}
use Rattle.climbing.proofs.Steps.{climb_tested, climb_strung, climb_refused, climb_next, kernel_is}
use Rattle.stacking.proofs.Strings.{strings}
use Rattle.stacking.specs.Stacked.{stacked_on, raised}

-- the first half copied into the second, so far
module _ (d : List ℕ) (s : ℕ) (long : length d ≡ s + s) where
  pub doubled_read : (k : ℕ) → k < s → get_or (paste d s d k) k 0 ≡ get_or d k 0
  doubled_read k l =
      let a : length (take s d) ≡ s = length-take-le s d (omega arith) in
      let b : length (take s d ++ take k d) ≡ s + length (take k d) = omega (arith, length-append (take s d) (take k d)) in
      get_or-append (take s d ++ take k d) (drop (s + k) d) 0 k (omega arith) ∙ get_or-append (take s d) (take k d) 0 k (omega arith) ∙ get_or-take s d k 0 l

  pub doubled_next : (k : ℕ) → k < s → set (paste d s d k) (s + k) (get_or (paste d s d k) k 0) ≡ paste d s d (k + 1)
  doubled_next k l = rw (doubled_read k l, add-one) (paste-suc d s d k 0 (omega arith) (omega arith))

  pub doubled_all : paste d s d s ≡ take s d ++ take s d
  doubled_all =
      let e : drop (s + s) d ≡ [] = rw (← long) (drop-length d) in
      ap (λ (x : List ℕ). take s d ++ take s d ++ x) e ∙ append-nil (take s d ++ take s d)

-- two blocks, the second a copy of the first, of which the second is lent and put back
module _ (pair : List ℕ) (s e : ℕ) (is : e ≡ s) (long : length pair ≡ s + s) (copied : List ℕ) (twice : copied ≡ take e pair ++ take e pair) where
  first_long : length (take e pair) ≡ e
  first_long = length-take-le e pair (omega arith)

  pub copied_long : length copied ≡ e + e
  copied_long = ap length twice ∙ length-append (take e pair) (take e pair) ∙ omega (arith, first_long)

  behind_is : drop e copied ≡ take e pair
  behind_is = ap (drop e) twice ∙ drop_at (take e pair) (take e pair) e first_long

  pub part_is : take (length copied - e) (drop e copied) ≡ take s pair
  part_is = ap (take (length copied - e)) behind_is ∙ take_all (length copied - e) (take e pair) (omega (arith, first_long, copied_long)) ∙ ap (λ (x : ℕ). take x pair) is

  pub put_is : (new : List ℕ) → take e copied ++ (new ++ drop (length copied - e) (drop e copied)) ≡ take s pair ++ new
  put_is new =
      let n : e + (length copied - e) ≡ length copied = omega (arith, copied_long) in
      let none : drop (length copied - e) (drop e copied) ≡ [] = drop-drop (length copied - e) e copied ∙ ap (λ (x : ℕ). drop x copied) n ∙ drop-length copied in
      let front : take e copied ≡ take s pair = ap (take e) twice ∙ take_at (take e pair) (take e pair) e first_long ∙ ap (λ (x : ℕ). take x pair) is in
      ap (λ (x : List ℕ). take e copied ++ (new ++ x)) none ∙ ap (λ (x : List ℕ). take e copied ++ x) (append-nil new) ∙ ap (λ (x : List ℕ). x ++ new) front

-- a kernel that is tested and accepted can be removed
pub ready_of : {n N : ℕ} {mark : ℕ → ℕ} {table : List ℕ} (l : ℕ) → Tested n N mark table → accepted ≡ check_kernel (entry N table) n N mark l → Ready n N mark table
ready_of {n} {N} {mark} {table} l t e = record { tested = t; kernel = kernel_sound (entry N table) n N mark l (There N (present N table)) t.sound.valid (λ d o. o.0) (sym e) }

module _ (f : Folded) where
  open f use {n, N, h, rows, lambda, delta}

  -- the entries of a block
  abbrev size : ℕ
  size = suc n * N

  pub block_long : (m : ℕ) → length (table_at f m) ≡ suc n * N
  block_long m = length_explicit (level (base f) n N (marks h (lambda_of f) (delta_of f)) m) n N (survives (lambda_of f) m)

  pub stacked_long : (m : ℕ) → length (stacked f m) ≡ m * (suc n * N)
  unfolding stacked
  stacked_long zero = omega arith
  stacked_long (suc m) = omega (arith, length-append (stacked f m) (table_at f m), stacked_long m, block_long m, suc-mul m size)

  module _ (found tables : List ℕ) (long : length found ≡ suc h * size) (l : ℕ) (k : l ≤ h) (holds : tables ≡ stacked_on f found (suc l)) where
    few : suc l * size ≤ suc h * size
    few = mul-le-mul_right size (omega arith)

    -- the blocks in front, the block of level l, and what is behind
    abbrev behind : List ℕ
    behind = drop (suc l * size) found

    parts : tables ≡ stacked f l ++ (table_at f l ++ behind)
    unfolding stacked
    parts = holds ∙ append_assoc (stacked f l) (table_at f l) behind

    pub stack_long : length tables ≡ length found
    stack_long = ap length holds ∙ length-append (stacked f (suc l)) behind ∙ omega (arith, stacked_long (suc l), length-drop (suc l * size) found, few)

    pub from_front : drop (l * size) tables ≡ table_at f l ++ behind
    from_front = ap (drop (l * size)) parts ∙ drop_at (stacked f l) (table_at f l ++ behind) (l * size) (stacked_long l)

    pub front : take (l * size) tables ≡ stacked f l
    front = ap (take (l * size)) parts ∙ take_at (stacked f l) (table_at f l ++ behind) (l * size) (stacked_long l)

    -- the block of level l, alone and with the block behind it
    pub block_is : (m : ℕ) → size ≤ m → take size (take m (drop (l * size) tables)) ≡ table_at f l
    block_is m g = take-take size m (drop (l * size) tables) g ∙ ap (take size) from_front ∙ take_at (table_at f l) behind size (block_long l)

    module _ (from to : ℕ) (from_is : from ≡ l * size) (to_is : to ≡ from + size + size) where
      -- two blocks lent
      pub lent_long : to ≤ length tables → length (take (to - from) (drop from tables)) ≡ size + size
      lent_long g = length-take-le (to - from) (drop from tables) (omega (arith, length-drop from tables)) ∙ omega arith

      pub lent_is : take size (take (to - from) (drop from tables)) ≡ table_at f l
      lent_is = ap (λ (x : ℕ). take size (take (to - from) (drop x tables))) from_is ∙ block_is (to - from) (omega arith)

      -- put back with the next level in the second
      pub put_next : take from tables ++ ((table_at f l ++ table_at f (suc l)) ++ drop (to - from) (drop from tables)) ≡ stacked_on f found (suc (suc l))
      unfolding stacked
      put_next =
          let e : from + (to - from) ≡ suc l * size + size = omega (arith, suc-mul l size) in
          let g : suc l * size + size ≡ suc (suc l) * size = omega (arith, suc-mul (suc l) size) in
          let rest : drop (to - from) (drop from tables) ≡ drop (suc (suc l) * size) found = drop-drop (to - from) from tables ∙ ap (λ (x : ℕ). drop x tables) e ∙ sym (drop-drop size (suc l * size) tables)
          ∙ ap (drop size) (ap (drop (suc l * size)) holds ∙ drop_at (stacked f (suc l)) behind (suc l * size) (stacked_long (suc l))) ∙ drop-drop size (suc l * size) found ∙ ap (λ (x : ℕ). drop x found) g in
          let start : take from tables ≡ stacked f l = ap (λ (x : ℕ). take x tables) from_is ∙ front in
          let T = table_at f l ++ table_at f (suc l) in
          ap (λ (x : List ℕ). take from tables ++ (T ++ x)) rest
          ∙ ap (λ (x : List ℕ). x ++ (T ++ drop (suc (suc l) * size) found)) start
          ∙ sym (append_assoc (stacked f l) T (drop (suc (suc l) * size) found))
          ∙ ap (λ (x : List ℕ). x ++ drop (suc (suc l) * size) found) (sym (append_assoc (stacked f l) (table_at f l) (table_at f (suc l))))

-- a refusal of kernel l leaves the blocks up to level l
late_blocks : (h l : ℕ) (v : Verdict) (r : Refusal) → Says (Late (λ x. x ≡ l)) v → refusal_of r ≡ v → blocks_left h v ≡ suc l
unfolding blocks_left
late_blocks h l _ r passed e = absurd (not_refused (sym (refusal_refuses r).is ∙ e))
late_blocks h l _ r (says k m i d p) e = rw p.0 (ap suc p.1)

-- kernels 0 to l−1 are accepted, and the blocks up to level l hold the levels
pub record Stacking (f : Folded) (found tables : List ℕ) (l from : ℕ) : Type 0 where
  pub low : l ≤ f.h
  pub from_is : from ≡ l * (suc f.n * f.N)
  pub holds : tables ≡ stacked_on f found (suc l)
  pub checked : scan l (kernel_at (base f) f.n f.N f.h (lambda_of f) (delta_of f)) ≡ accepted

module _ (f : Folded) (b : Base f) where
  open f use {n, N, h, rows, lambda, delta}

  -- the base in the first block
  module _ (found : List ℕ) where
    based_same : (m : ℕ) → stacked_on f (rows ++ drop (suc n * N) found) (suc m) ≡ stacked_on f found (suc m)
    based_same m =
        let e : suc m * (suc n * N) ≡ length rows + m * (suc n * N) = omega (arith, suc-mul m (suc n * N), b.rows_long) in
        let g : suc n * N + m * (suc n * N) ≡ suc m * (suc n * N) = omega (arith, suc-mul m (suc n * N)) in
        ap (λ (x : List ℕ). stacked f (suc m) ++ x)
        (ap (λ (x : ℕ). drop x (rows ++ drop (suc n * N) found)) e ∙ drop-append-add rows (drop (suc n * N) found) (m * (suc n * N)) ∙ drop-drop (m * (suc n * N)) (suc n * N) found ∙ ap (λ (x : ℕ). drop x found) g)

    stacking_none : Stacking f (rows ++ drop (suc n * N) found) (rows ++ drop (suc n * N) found) 0 0
    unfolding stacked scan
    stacking_none =
        let e : 1 * (suc n * N) ≡ length rows = omega (arith, b.rows_long) in
        record {
          low = omega arith;
          from_is = omega arith;
          holds = ap (λ (x : List ℕ). x ++ drop (suc n * N) found) (base_table n N h rows (each lambda) (each delta) b.rows_long)
              ∙ ap (λ (x : List ℕ). table_at f 0 ++ x) (sym (ap (λ (x : ℕ). drop x (rows ++ drop (suc n * N) found)) e ∙ drop-append_seam rows (drop (suc n * N) found)));
          checked = refl;
        }

  -- the base, copied into the first block
  module _ (found : List ℕ) (long : length found ≡ suc h * (suc n * N)) {block : List ℕ} (copied : block ≡ rows) where
    abbrev start : List ℕ
    start = block ++ drop (length rows) found

    start_is : start ≡ rows ++ drop (suc n * N) found
    start_is = ap (λ (x : List ℕ). x ++ drop (length rows) found) copied ∙ ap (λ (x : ℕ). rows ++ drop x found) b.rows_long

    pub start_long : length start ≡ suc h * (suc n * N)
    start_long = ap length start_is ∙ length-append rows (drop (suc n * N) found) ∙ omega (arith, length-drop (suc n * N) found, b.rows_long, long, suc-mul h (suc n * N))

    pub start_stacking : Stacking f start start 0 0
    start_stacking = subst (λ (x : List ℕ). Stacking f x x 0 0) (sym start_is) (stacking_none found)

    pub start_same : (m : ℕ) → stacked_on f start (suc m) ≡ stacked_on f found (suc m)
    start_same m = ap (λ (x : List ℕ). stacked_on f x (suc m)) start_is ∙ based_same found m

  module _ (found tables : List ℕ) (long : length found ≡ suc h * (suc n * N)) (l from : ℕ) (v : Stacking f found tables l from) where
    climbed_by : {head next : List ℕ} → Linked N (lambda_of f) 0 head next → Climbed f l head next (table_at f l)
    climbed_by w = record { base = b; low = v.low; checked = v.checked; holds = refl; strung = w }

    climbed : Climbed f l (strings f b).head (strings f b).next (table_at f l)
    climbed = climbed_by (strings f b).linked

    pub stacking_long : length tables ≡ length found
    stacking_long = stack_long f found tables long l v.low v.holds

    -- all kernels
    pub stacking_all : l ≡ h → (accepted ≡ climbs f) × (tables ≡ stacked_on f found (suc h))
    unfolding check_kernels
    stacking_all e = (sym (rw e at v.checked), rw e at v.holds)

    -- kernel l, on two blocks that are lent
    module _ (lt : l < h) (to : ℕ) (to_is : to ≡ from + suc n * N + suc n * N) where
      abbrev row : ℕ → ℕ
      row = kernel_row lambda delta l

      abbrev pair : List ℕ
      pair = take (to - from) (drop from tables)

      room : suc (suc l) * (suc n * N) ≤ suc h * (suc n * N)
      room = mul-le-mul_right (suc n * N) (omega arith)

      pub stacking_room : to ≤ length tables
      stacking_room = omega (arith, room, stacking_long, v.from_is, suc-mul (suc l) (suc n * N), suc-mul l (suc n * N))

      first_is : take (suc n * N) pair ≡ table_at f l
      first_is = lent_is f found tables long l v.low v.holds from to v.from_is to_is

      pub stacking_tested : (length pair ≡ suc n * N + suc n * N) × Tested n N row (take (suc n * N) pair)
      stacking_tested = (lent_long f found tables long l v.low v.holds from to v.from_is to_is stacking_room, subst (λ (x : List ℕ). Tested n N row x) (sym first_is) (climb_tested climbed lt))

      pub stacking_strung : {head next : List ℕ} → Linked N (each lambda) 0 head next → {first : ℕ} → first ≡ each head l → Strung n N l first lambda delta next
      stacking_strung w e = climb_strung (climbed_by w) lt e

      check_is : check_kernel (entry N (take (suc n * N) pair)) n N row l ≡ kernel_at (base f) n N h (lambda_of f) (delta_of f) l
      check_is = ap (λ (x : List ℕ). check_kernel (entry N x) n N row l) first_is ∙ kernel_is climbed lt

      -- refused, the blocks are as they were
      pub stacking_refused : (r : Refusal) → refusal_of r ≡ check_kernel (entry N (take (suc n * N) pair)) n N row l → {after : List ℕ} → after ≡ raised n N l row pair
          → (refusal_of r ≡ climbs f) × (blocks_left h (climbs f) ≡ suc l) × (put_mid from (to - from) tables after ≡ stacked_on f found (suc l))
      unfolding kernel_at check_kernels
      stacking_refused r e {after} leaves =
          let all = climb_refused climbed lt {after = table_at f l} (refusal_keeps r (check_kernel (entry N (table_at f l)) n N row l) (removed_from n N row (table_at f l)) (table_at f l) (e ∙ ap (λ (x : List ℕ). check_kernel (entry N x) n N row l) first_is)) h lt r
          (e ∙ ap (λ (x : List ℕ). check_kernel (entry N x) n N row l) first_is) in
          let here : refusal_of r ≡ kernel_at (base f) n N h (lambda_of f) (delta_of f) l = e ∙ check_is in
          let same : kernel_at (base f) n N h (lambda_of f) (delta_of f) l ≡ climbs f = sym here ∙ all.0 in
          let kept : after ≡ pair = leaves ∙ sym (refusal_keeps r (check_kernel (entry N (take (suc n * N) pair)) n N row l) (take (suc n * N) pair ++ removed_from n N row (take (suc n * N) pair)) pair e) in (
            all.0,
            ap (blocks_left h) (sym same) ∙ late_blocks h l (kernel_at (base f) n N h (lambda_of f) (delta_of f) l) r (kernel_late (level (base f) n N (marks h (lambda_of f) (delta_of f)) l) n N (marks h (lambda_of f) (delta_of f) l) l) here,
            ap (put_mid from (to - from) tables) kept ∙ put_same from (to - from) tables ∙ v.holds,
          )

      -- accepted, the next block holds the next level
      pub stacking_next : accepted ≡ check_kernel (entry N (take (suc n * N) pair)) n N row l → {after : List ℕ} → after ≡ raised n N l row pair → Stacking f found (put_mid from (to - from) tables after) (l + 1) (from + suc n * N)
      stacking_next e {after} leaves =
          let next = climb_next climbed lt {after = removed_from n N row (table_at f l)} (rw (← (e ∙ ap (λ (x : List ℕ). check_kernel (entry N x) n N row l) first_is)) refl) (e ∙ ap (λ (x : List ℕ). check_kernel (entry N x) n N row l) first_is) in
          let top : removed_from n N row (table_at f l) ≡ table_at f (suc l) = rw add-one at next.holds in
          let new : after ≡ table_at f l ++ table_at f (suc l) = leaves ∙ rw (← e) (ap (λ (x : List ℕ). x ++ removed_from n N row x) first_is ∙ ap (λ (x : List ℕ). table_at f l ++ x) top) in
          record {
            low = omega arith;
            from_is = omega (arith, v.from_is, next_row l (suc n * N));
            holds = ap (put_mid from (to - from) tables) new ∙ put_next f found tables long l v.low v.holds from to v.from_is to_is ∙ rw add-one;
            checked = next.checked;
          }

-- block l of levels one behind the other
module _ (f : Folded) where
  open f use {n, N, h, rows, lambda, delta}

  pub stacked_block : (m l : ℕ) → l < m → take (suc n * N) (drop (l * (suc n * N)) (stacked f m)) ≡ table_at f l
  unfolding stacked
  stacked_block zero l k = absurd (omega arith)
  stacked_block (suc m) l k = go (eqb l m) refl (λ z. stacked_block m l z)
    where
      go : (x : Bool) → eqb l m ≡ x → (l < m → take (suc n * N) (drop (l * (suc n * N)) (stacked f m)) ≡ table_at f l) → take (suc n * N) (drop (l * (suc n * N)) (stacked f m ++ table_at f m)) ≡ table_at f l
      go true q ih =
          let e = eqb-true l m q in
          ap (λ (x : ℕ). take (suc n * N) (drop (x * (suc n * N)) (stacked f m ++ table_at f m))) e
          ∙ ap (take (suc n * N)) (drop_at (stacked f m) (table_at f m) (m * (suc n * N)) (stacked_long f m)) ∙ take_all (suc n * N) (table_at f m) (omega (arith, block_long f m)) ∙ ap (table_at f) (sym e)
      go false q ih =
          let ne : l ≡ m → ⊥ = eqb-false l m q in
          let s = suc n * N in
          let k₂ : suc l * s ≤ m * s = mul-le-mul_right s (omega arith) in
          let r : l * s + s ≤ m * s = omega (arith, suc-mul l s) in
          ap (take s) (drop-append-le (l * s) (stacked f m) (table_at f m) (omega (arith, stacked_long f m)))
          ∙ take-append-le s (drop (l * s) (stacked f m)) (table_at f m) (omega (arith, length-drop (l * s) (stacked f m), stacked_long f m)) ∙ ih (omega arith)
