-- A number for each link, carried along where a kernel is taken out. Assumes nothing: these are definitions.
use Rattle.std.specs.Prelude.{◌≡◌, Bool, true, false, cond, ◌&&◌, not, List, ℕ, suc, ◌≤◌, ◌<◌, length, ltb}
use Rattle.maps.specs.Mark.{is_mark, between}
use Rattle.maps.specs.Removal.{marked}
use Rattle.maps.specs.Table.{entry}
use Rattle.maps.specs.UnfoldAll.{counts_of, counts_from}
use Rattle.kernels.specs.declared.Kernel.{Kernel}
use Rattle.kernels.specs.Strings.{Marks}
use Rattle.kernels.specs.Ready.{map_of, row_of, TableIs, Followed, ReadyOn, StrungIn}

-- does row t lead from dart k, which stays, to a dart that the kernel marks with that row?
unfoldable pub leads : ℕ → ℕ → (ℕ → ℕ) → List ℕ → ℕ → ℕ → Bool
leads n N mark block t k = ltb (entry N block t k) N && (not (is_mark n (mark k)) && marked (entry N block) n mark t (entry N block t k))

-- the table after, with a new number at every link that leads into the kernel
abbrev pub Led : ℕ → ℕ → (ℕ → ℕ) → List ℕ → (ℕ → ℕ → ℕ) → List ℕ → List ℕ → Type 0
Led n N mark block f before after = TableIs N (λ t k. cond (leads n N mark block t k) (f t k) (entry N before t k)) before after

-- the counts of the links that the link of k by row t is made of, over tables
abbrev pub counted : ℕ → ℕ → (ℕ → ℕ) → List ℕ → List ℕ → ℕ → ℕ → ℕ
counted n N mark block reads t k = counts_of (entry N block) n mark (entry N reads) N t k

-- each fits in an entry
abbrev pub Fits : ℕ → ℕ → (ℕ → ℕ) → List ℕ → List ℕ → Type 0
Fits n N mark block reads = (t k : ℕ) → t ≤ n → k < N → leads n N mark block t k ≡ true → counted n N mark block reads t k < 65536

-- the counts of the links by which the removal of a kernel goes on from a dart of it, by a row
abbrev pub counts_on : Kernel → List ℕ → List ℕ → ℕ → ℕ → ℕ
counts_on k block reads t d = counts_from (map_of k block) k.n.0 (row_of k) (map_of k reads) k.darts t d

-- what following the marks of a kernel and summing along them asks of the block and the table of counts
abbrev pub CanFollow : Kernel → List ℕ → List ℕ → Type 0
CanFollow k block reads =
    Marks k.n.0 k.darts k.level.0 k.lambda.now k.delta.now × Followed k.n.0 k.darts (row_of k) block × (length reads ≡ length block)

-- the kernel can be taken out of the block, and its darts are strung
abbrev pub CanTake : Kernel → List ℕ → Type 0
CanTake k block = ReadyOn k block × StrungIn k

-- where dart d of the kernel leads by the first row of its mark
abbrev pub led_from : Kernel → List ℕ → ℕ → ℕ
led_from k block d = map_of k block (between (row_of k d)).0 d

-- that dart is of the kernel
abbrev pub Within : Kernel → List ℕ → ℕ → Type 0
Within k block d = is_mark k.n.0 (row_of k (led_from k block d)) ≡ true

-- it is dart b, which stays, and i is that row
pub record Enters (k : Kernel) (block : List ℕ) (d i b : ℕ) : Type 0 where
  pub row : i ≡ (between (row_of k d)).0
  pub low : i ≤ k.n.0
  pub dart : b ≡ led_from k block d
  pub inside : b < k.darts
  pub stays : is_mark k.n.0 (row_of k b) ≡ false

-- the counts that are carried along a kernel of a block
abbrev pub CountsLed : Kernel → List ℕ → List ℕ → List ℕ → Type 0
CountsLed k block before after =
    Led k.n.0 k.darts (row_of k) block (counted k.n.0 k.darts (row_of k) block before) before after

-- and the levels since which
abbrev pub SinceLed : Kernel → List ℕ → List ℕ → List ℕ → Type 0
SinceLed k block before after = Led k.n.0 k.darts (row_of k) block (λ _ _. suc k.level.0) before after
