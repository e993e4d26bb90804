-- What is told so far, level after level, of the blocks of an accepted pyramid. Assumes nothing.
use mathlib.Core.Path.{◌≡◌, refl, sym, ap, subst, ◌∙◌}
use mathlib.Core.Bool.{Bool, true, false, cond}
use mathlib.Core.List.{List}
use Prim.Native.Nat.{ℕ, suc, ◌+◌, ◌-◌, ◌*◌, ◌≤◌, ◌<◌, zero-le}
use native.Mathlib.Nat.{mul-le-mul_right, suc-mul}
use native.Mathlib.Omega.{arith}
use lib.ListN.{length, get_or, set, take, drop, replicate, length-set, length-drop, get_or-replicate}
use lib.Seq.{length-take-le, get_or-take}
use lib.Dec.{ltb}
use borrow.Author.Tests.{ltb-true, ltb-false}
use Rattle.maps.specs.Table.{entry, each}
use Rattle.maps.specs.Folded.{Folded}
use Rattle.maps.specs.CheckPyramid.{table_at}
use Rattle.maps.specs.UnfoldAll.{by_level, total_at, latest_at}
use Rattle.laws.proofs.Tables.{listed_of, table_size, in_table}
use Rattle.kernels.specs.Strings.{kernel_row, Linked, Strung}
use Rattle.kernels.specs.Ready.{Ready}
use Rattle.climbing.proofs.Rows.{RowTo, row_none, row_set}
use Rattle.carrying.specs.Carried.{Led, counted, Fits}
use Rattle.unfolding.specs.Told.{Levels, total_on, latest_on}
use Rattle.stacking.proofs.Stacks.{stacked_long, stacked_block}
use Rattle.unfolding.proofs.Levelled.{based, height, CountsAt, SinceAt, counts_base, since_base, kernel_ready, kernel_strung, counts_fit, count_next, since_next, total_told, latest_told, latest_few}

-- the counts and levels since which of level l stand in the tables, and those of the levels below are told
pub record Here (f : Folded) (tables : List ℕ) (L : Levels f tables) (found found-since counts since reads stands : List ℕ) (l : ℕ) : Type 0 where
  pub counts_here : CountsAt f L.accepts l reads
  pub since_here : SinceAt f L.accepts l stands
  pub counts_told : RowTo (total_at f) l found counts
  pub since_told : RowTo (latest_at f) l found-since since

-- all levels are told
pub all_told : (value : ℕ → ℕ) (h : ℕ) (counts : List ℕ) → h ≤ 32 → RowTo value (h + 1) (replicate 33 0) counts → length counts ≡ 33 → counts ≡ by_level h value
unfolding by_level
all_told value h counts k r long = listed_of _ 33 counts long (λ l lt. go l lt (ltb h l) refl)
  where
    go : (l : ℕ) → l < 33 → (x : Bool) → ltb h l ≡ x → get_or counts l 0 ≡ cond (ltb h l) 0 (value l)
    go l lt true q = rw q (r.rest l (omega (arith, ltb-true h l q)) ∙ get_or-replicate 33 l 0 0 lt)
    go l lt false q = rw q (r.done l (omega (arith, ltb-false h l q)))

module _ (f : Folded) (tables : List ℕ) (L : Levels f tables) (l : ℕ) (k : l < f.h) (size from : ℕ) (size_is : size ≡ suc f.n * f.N) (from_is : from ≡ l * size) where
  open f use {n, N, h, rows, lambda, delta}

  abbrev part : List ℕ
  part = take (from + size - from) (drop from tables)

  pub part_is : part ≡ table_at f l
  part_is =
      let a : from + size - from ≡ suc n * N = omega arith in
      let b : from ≡ l * (suc n * N) = from_is ∙ ap (λ (x : ℕ). l * x) size_is in
      ap (λ (x : ℕ). take x (drop from tables)) a ∙ ap (λ (x : ℕ). take (suc n * N) (drop x tables)) b ∙ ap (λ (x : List ℕ). take (suc n * N) (drop (l * (suc n * N)) x)) L.holds ∙ stacked_block f (suc h) l (omega arith)

  pub part_room : (from + size ≤ length tables) × (from + size ≤ 800000)
  part_room =
      let b : from ≡ l * (suc n * N) = from_is ∙ ap (λ (x : ℕ). l * x) size_is in
      let m : suc l * (suc n * N) ≤ suc h * (suc n * N) = mul-le-mul_right (suc n * N) (omega arith) in
      let g : suc l * (suc n * N) ≤ 34 * (suc n * N) = mul-le-mul_right (suc n * N) (omega (arith, height f L.accepts)) in
      let t = table_size n N 0 (based f L.accepts).dimension (based f L.accepts).darts (omega arith) in
      (omega (arith, ap length L.holds, stacked_long f (suc h), suc-mul l (suc n * N)), omega (arith, suc-mul l (suc n * N), t.1))

  pub part_ready : Ready n N (kernel_row lambda delta l) part
  part_ready = subst (λ (x : List ℕ). Ready n N (kernel_row lambda delta l) x) (sym part_is) (kernel_ready f L.accepts l k)

  pub part_strung : {head next : List ℕ} → Linked N (each lambda) 0 head next → {first : ℕ} → first ≡ each head l → Strung n N l first lambda delta next
  part_strung w e = kernel_strung f L.accepts l k w e

  pub part_fits : (table : List ℕ) → CountsAt f L.accepts l table → Fits n N (kernel_row lambda delta l) part table
  part_fits table t = subst (λ (x : List ℕ). Fits n N (kernel_row lambda delta l) x table) (sym part_is) (counts_fit f L.accepts l k table t)

  pub counts_next : (table after : List ℕ) → CountsAt f L.accepts l table → Led n N (kernel_row lambda delta l) part (counted n N (kernel_row lambda delta l) part table) table after → CountsAt f L.accepts (suc l) after
  counts_next table after t led i b li o = count_next f L.accepts l k i b li o table t after (subst (λ (x : List ℕ). Led n N (kernel_row lambda delta l) x (counted n N (kernel_row lambda delta l) x table) table after) part_is led)

  pub stands_next : (table after : List ℕ) → SinceAt f L.accepts l table → Led n N (kernel_row lambda delta l) part (λ _ _. suc l) table after → SinceAt f L.accepts (suc l) after
  stands_next table after t led i b li o = since_next f L.accepts l k i b li o table after t (subst (λ (x : List ℕ). Led n N (kernel_row lambda delta l) x (λ _ _. suc l) table after) part_is led)

module _ (f : Folded) (tables : List ℕ) (L : Levels f tables) where
  open f use {n, N, h, rows, lambda, delta}

  -- on level 0 nothing is told, every count is 1 and every link stands since 0
  pub here_first : {size : ℕ} → size ≡ suc n * N → size ≤ 20480 → (found found-since : List ℕ) → Here f tables L found found-since found found-since (take size (replicate 20480 1)) (take size (replicate 20480 0)) 0
  here_first {size} is few found found-since = record {
    counts_here = counts_base f L.accepts (take size (replicate 20480 1)) (λ i b li lb. at i b li lb 1);
    since_here = since_base f L.accepts (take size (replicate 20480 0)) (λ i b li lb. at i b li lb 0);
    counts_told = row_none (total_at f) found;
    since_told = row_none (latest_at f) found-since;
  }
    where
      at : (i b : ℕ) → i ≤ n → b < N → (x : ℕ) → entry N (take size (replicate 20480 x)) i b ≡ x
      at i b li lb x = let z = in_table n N i b li lb in get_or-take size (replicate 20480 x) (i * N + b) 0 (omega arith) ∙ get_or-replicate 20480 (i * N + b) x 0 (omega arith)

  module _ {found found-since counts since reads stands : List ℕ} {l : ℕ} (v : Here f tables L found found-since counts since reads stands l) where
    -- the level since which all links of the level stand is small
    pub here_small : l ≤ h → {x : ℕ} → x ≡ latest_on n (length lambda) lambda l stands → x ≤ 32
    here_small k e = omega (arith, e, ap (λ (m : ℕ). latest_on n m lambda l stands) (based f L.accepts).lambda_long, latest_few f L.accepts l k stands v.since_here)

    module _ (k : l ≤ h) where
      total_is : {x : ℕ} → x ≡ total_on n (length lambda) lambda l reads → x ≡ total_at f l
      total_is e = e ∙ ap (λ (m : ℕ). total_on n m lambda l reads) (based f L.accepts).lambda_long ∙ total_told f L.accepts l k reads v.counts_here

      latest_is : {x : ℕ} → x ≡ latest_on n (length lambda) lambda l stands → x ≡ latest_at f l
      latest_is e = e ∙ ap (λ (m : ℕ). latest_on n m lambda l stands) (based f L.accepts).lambda_long ∙ latest_told f L.accepts l k stands v.since_here

    -- the top level is told, and with it all are
    pub here_counts : l ≡ h → found ≡ replicate 33 0 → length counts ≡ 33 → {x : ℕ} → x ≡ total_on n (length lambda) lambda h reads → set counts h x ≡ by_level h (total_at f)
    here_counts e z long {x} t =
        let k = height f L.accepts in
        let r = row_set v.counts_told (omega (arith, v.counts_told.long)) x (total_is (omega arith) (t ∙ ap (λ (m : ℕ). total_on n (length lambda) lambda m reads) (sym e))) in
        let q : RowTo (total_at f) (h + 1) (replicate 33 0) (set counts h x) = subst (λ (y : List ℕ). RowTo (total_at f) (h + 1) y (set counts h x)) z (subst (λ (y : ℕ). RowTo (total_at f) (y + 1) found (set counts y x)) e r) in
        all_told (total_at f) h (set counts h x) k q (length-set counts h x ∙ long)

    pub here_since : l ≡ h → found-since ≡ replicate 33 0 → length since ≡ 33 → {x : ℕ} → x ≡ latest_on n (length lambda) lambda h stands → set since h x ≡ by_level h (latest_at f)
    here_since e z long {x} t =
        let k = height f L.accepts in
        let r = row_set v.since_told (omega (arith, v.since_told.long)) x (latest_is (omega arith) (t ∙ ap (λ (m : ℕ). latest_on n (length lambda) lambda m stands) (sym e))) in
        let q : RowTo (latest_at f) (h + 1) (replicate 33 0) (set since h x) = subst (λ (y : List ℕ). RowTo (latest_at f) (h + 1) y (set since h x)) z (subst (λ (y : ℕ). RowTo (latest_at f) (y + 1) found-since (set since y x)) e r) in
        all_told (latest_at f) h (set since h x) k q (length-set since h x ∙ long)

  -- from one level to the next
  module _ {found found-since counts since : List ℕ} {l : ℕ} (reads stands : List ℕ) (size from : ℕ) (v : Here f tables L found found-since counts since reads stands l) (k : l < h) (size_is : size ≡ suc n * N) (from_is : from ≡ l * size) where
    pub here_next : (X Y : List ℕ)
        → Led n N (kernel_row lambda delta l) (take (from + size - from) (drop from tables)) (counted n N (kernel_row lambda delta l) (take (from + size - from) (drop from tables)) reads) reads X
        → Led n N (kernel_row lambda delta l) (take (from + size - from) (drop from tables)) (λ _ _. suc l) stands Y
        → {x y : ℕ} → x ≡ total_on n (length lambda) lambda l reads → y ≡ latest_on n (length lambda) lambda l stands
        → length counts ≡ 33 → length since ≡ 33 → Here f tables L found found-since (set counts l x) (set since l y) X Y (l + 1)
    here_next X Y led led-since {x} {y} t u long long-since =
        let z = height f L.accepts in
        let e : suc l ≡ l + 1 = omega arith in
        record {
          counts_here = subst (λ (m : ℕ). CountsAt f L.accepts m X) e (counts_next f tables L l k size from size_is from_is reads X v.counts_here led);
          since_here = subst (λ (m : ℕ). SinceAt f L.accepts m Y) e (stands_next f tables L l k size from size_is from_is stands Y v.since_here led-since);
          counts_told = row_set v.counts_told (omega (arith, v.counts_told.long)) x (total_is v (omega arith) t);
          since_told = row_set v.since_told (omega (arith, v.since_told.long)) y (latest_is v (omega arith) u);
        }

-- what the loop asks of the fronts of 20,480 numbers that are its tables, and of counts and levels since which
module _ {f : Folded} {tables : List ℕ} (L : Levels f tables) where
  open f use {n, N, h, lambda}

  pub place : (l : ℕ) → l ≤ h → (told : List ℕ) → length told ≡ 33 → l < length told
  place l k told long = let z = height f L.accepts in omega (arith, long)

  module _ {size : ℕ} (is : size ≡ suc n * N) where
    pub few : size ≤ 20480
    few = let b = based f L.accepts in let t = table_size n N 0 b.dimension b.darts zero-le in omega (arith, is, t.1)

    pub front_long : (numbers : List ℕ) → length numbers ≡ 20480 → length (take size numbers) ≡ size
    front_long numbers long = let z = few in length-take-le size numbers (omega (arith, long))

    pub table_asked : (numbers : List ℕ) → length numbers ≡ size → (n ≤ 4) × (length lambda ≤ 4096) × (length numbers ≡ suc n * length lambda)
    table_asked numbers long = let b = based f L.accepts in (b.dimension, omega (arith, b.lambda_long, b.darts), long ∙ is ∙ ap (λ (x : ℕ). suc n * x) (sym b.lambda_long))

    pub block_long : (l from : ℕ) → l < h → from ≡ l * size → length (take (from + size - from) (drop from tables)) ≡ size
    block_long l from k from_is =
        let r = part_room f tables L l k size from is from_is in
        length-take-le (from + size - from) (drop from tables) (omega (arith, length-drop from tables, r.0)) ∙ omega arith
