-- The base that two rows yield: it is valid, it is one, and it tells the rows. Assumes nothing.
use mathlib.Core.Path.{◌≡◌, sym, ap, ◌∙◌}
use mathlib.Core.Logic.{◌⊎◌, inl, inr}
use mathlib.Core.Bool.{true}
use mathlib.Core.List.{List}
use Prim.Native.Nat.{ℕ, zero, suc, ◌+◌, ◌*◌, ◌/◌, ◌%◌, ◌≤◌, ◌<◌}
use native.Mathlib.Omega.{arith}
use lib.ListN.{length, get_or}
use lib.Seq.{ext_get_or}
use borrow.Author.Tests.{eq-eqb, le-leb}
use Rattle.maps.specs.Verdict.{accepted}
use Rattle.maps.specs.Sizes.{number1, number2, number3, number4, sizes}
use Rattle.maps.specs.Map.{Involutions, Valid}
use Rattle.maps.specs.Table.{entry, each}
use Rattle.maps.specs.CheckBase.{check_base}
use Rattle.maps.specs.Partner.{Becomes, Yields}
use Rattle.laws.proofs.Tables.{place}
use Rattle.facts.proofs.Checks.{sound_map, base_valid}
use Rattle.combinatorial.proofs.Tests.{taken, onto}
use Rattle.combinatorial.proofs.Halves.{half}

module _ (M : ℕ) (edge vertex : ℕ → ℕ) (edge-inside : (d : ℕ) → d < M → edge d < M) (vertex-inside : (d : ℕ) → d < M → vertex d < M) (edge-twice : (d : ℕ) → d < M → edge (edge d) ≡ d)
    (vertex-onto : (x : ℕ) → x < M → (d : ℕ) × (d < M) × (vertex d ≡ x)) where
  -- where each row leads from each dart, and that it leads back
  pub data Led (a : Involutions) (i x : ℕ) : Type 0 where
    led : (y : ℕ) → a i x ≡ y → y < 2 * M → a i y ≡ x → Led a i x

  module _ (a : Involutions) (b : Becomes M edge vertex a) where
    leads : (i d : ℕ) → i ≤ 2 → d < M → Led a i (2 * d) × Led a i (2 * d + 1)
    leads zero d li l =
        let e = edge-inside d l in
        let here = b.a0 d l in
        let there = b.a0 (edge d) e in
        (led (2 * edge d + 1) here.0 (omega arith) (there.1 ∙ ap (λ (x : ℕ). 2 * x) (edge-twice d l)), led (2 * edge d) here.1 (omega arith) (there.0 ∙ ap (λ (x : ℕ). 2 * x + 1) (edge-twice d l)))
    leads (suc zero) d li l =
        let v = vertex-inside d l in
        let w = vertex-onto d l in
        let back = b.a1 w.0 w.1 in
        let is : 2 * vertex w.0 ≡ 2 * d = ap (λ (x : ℕ). 2 * x) w.2 in
        (led (2 * w.0 + 1) (ap (a 1) (sym is) ∙ back.1) (omega (arith, w.1)) (back.0 ∙ is), led (2 * vertex d) (b.a1 d l).0 (omega arith) (b.a1 d l).1)
    leads (suc (suc zero)) d li l = (led (2 * d + 1) (b.a2 d l).0 (omega arith) (b.a2 d l).1, led (2 * d) (b.a2 d l).1 (omega arith) (b.a2 d l).0)
    leads (suc (suc (suc i))) d li l = absurd (omega arith)

    leads_any : (i x : ℕ) → i ≤ 2 → x < 2 * M → Led a i x
    leads_any i x li l = go (half M x l)
      where
        go : (d : ℕ) × (d < M) × ((x ≡ 2 * d) ⊎ (x ≡ 2 * d + 1)) → Led a i x
        go (d, f, inl e) = rw e (leads i d li f).0
        go (d, f, inr e) = rw e (leads i d li f).1

    -- a0 and a2 commute
    square : (x : ℕ) → x < 2 * M → a 2 (a 0 x) ≡ a 0 (a 2 x)
    square x l = go (half M x l)
      where
        go : (d : ℕ) × (d < M) × ((x ≡ 2 * d) ⊎ (x ≡ 2 * d + 1)) → a 2 (a 0 x) ≡ a 0 (a 2 x)
        go (d, f, inl e) = rw e (ap (a 2) (b.a0 d f).0 ∙ (b.a2 (edge d) (edge-inside d f)).1 ∙ sym (b.a0 d f).1 ∙ ap (a 0) (sym (b.a2 d f).0))
        go (d, f, inr e) = rw e (ap (a 2) (b.a0 d f).1 ∙ (b.a2 (edge d) (edge-inside d f)).0 ∙ sym (b.a0 d f).0 ∙ ap (a 0) (sym (b.a2 d f).1))

    pub base_of_rows : Valid a 2 (λ d. d < 2 * M)
    base_of_rows = record {
      inside = λ i d li l. elim (leads_any i d li l) [ led y e f g ↦ rw e f ];
      twice = λ i d li l. elim (leads_any i d li l) [ led y e f g ↦ ap (a i) e ∙ g ];
      commute = λ i j d f lj l. go i j f lj (square d l);
    }
      where
        go : (i j : ℕ) {d : ℕ} → i + 2 ≤ j → j ≤ 2 → a 2 (a 0 d) ≡ a 0 (a 2 d) → a j (a i d) ≡ a i (a j d)
        go i j f lj e = let x : i ≡ 0 = omega arith in let y : j ≡ 2 = omega arith in rw (x, y) e

  -- two bases of the same rows are alike
  pub same_base : (a b : Involutions) → Becomes M edge vertex a → Becomes M edge vertex b → (i x : ℕ) → i ≤ 2 → x < 2 * M → a i x ≡ b i x
  same_base a b p q i x li l = go (half M x l)
    where
      turn : (e : ℕ) → e < M → a 1 (2 * e) ≡ b 1 (2 * e)
      turn e f = let w = vertex-onto e f in let is : 2 * vertex w.0 ≡ 2 * e = ap (λ (y : ℕ). 2 * y) w.2 in ap (a 1) (sym is) ∙ (p.a1 w.0 w.1).1 ∙ sym (q.a1 w.0 w.1).1 ∙ ap (b 1) is

      even : (i d : ℕ) → i ≤ 2 → d < M → a i (2 * d) ≡ b i (2 * d)
      even zero d li f = (p.a0 d f).0 ∙ sym (q.a0 d f).0
      even (suc zero) d li f = turn d f
      even (suc (suc zero)) d li f = (p.a2 d f).0 ∙ sym (q.a2 d f).0
      even (suc (suc (suc i))) d li f = absurd (omega arith)

      odd : (i d : ℕ) → i ≤ 2 → d < M → a i (2 * d + 1) ≡ b i (2 * d + 1)
      odd zero d li f = (p.a0 d f).1 ∙ sym (q.a0 d f).1
      odd (suc zero) d li f = (p.a1 d f).0 ∙ sym (q.a1 d f).0
      odd (suc (suc zero)) d li f = (p.a2 d f).1 ∙ sym (q.a2 d f).1
      odd (suc (suc (suc i))) d li f = absurd (omega arith)

      go : (d : ℕ) × (d < M) × ((x ≡ 2 * d) ⊎ (x ≡ 2 * d + 1)) → a i x ≡ b i x
      go (d, f, inl e) = rw e (even i d li f)
      go (d, f, inr e) = rw e (odd i d li f)

module _ (M : ℕ) (edges vertices : List ℕ) where
  -- what the import takes and yields is a valid base
  pub yields_valid : (rows : List ℕ) → Yields M edges vertices rows → Valid (entry (2 * M) rows) 2 (λ d. d < 2 * M)
  yields_valid rows y =
      let t = taken M edges vertices rows y.taken in
      base_of_rows M (each edges) (each vertices) t.edges_row.inside t.vertices_row.inside t.twice (onto M vertices t.vertices_row.inside t.one_to_one) (entry (2 * M) rows) y.base

  -- so the base check accepts it
  pub yields_checked : (rows : List ℕ) → Yields M edges vertices rows → check_base 2 (2 * M) rows ≡ accepted
  unfolding check_base sizes number1 number2 number3 number4
  yields_checked rows y =
      let t = taken M edges vertices rows y.taken in
      let exact : length rows ≡ 3 * (2 * M) = t.rows_length ∙ omega arith in
      rw (le-leb 1 (2 * M) (omega (arith, t.one_dart)), le-leb (2 * M) 4096 (omega (arith, t.darts)), eq-eqb (length rows) (3 * (2 * M)) exact)
      (sound_map (entry (2 * M) rows) 2 (2 * M) (λ d. true) (base_valid (entry (2 * M) rows) 2 (2 * M) 0 (λ d. d) (λ d. d) (omega arith) (yields_valid rows y)))

  -- and two rows yield one base
  pub yields_one : (rows rows' : List ℕ) → Yields M edges vertices rows → Yields M edges vertices rows' → rows ≡ rows'
  yields_one rows rows' y y' =
      let t = taken M edges vertices rows y.taken in
      let t' = taken M edges vertices rows' y'.taken in
      let alike = same_base M (each edges) (each vertices) t.edges_row.inside t.vertices_row.inside t.twice (onto M vertices t.vertices_row.inside t.one_to_one) (entry (2 * M) rows) (entry (2 * M) rows') y.base y'.base in
      ext_get_or 0 rows rows' (t.rows_length ∙ sym t'.rows_length) (λ x l.
      let p = place 2 (2 * M) x (omega (arith, t.rows_length)) in
      ap (λ (k : ℕ). get_or rows k 0) (sym p.2) ∙ alike (x / (2 * M)) (x % (2 * M)) p.0 p.1 ∙ ap (λ (k : ℕ). get_or rows' k 0) p.2)

-- a base tells the rows that yield it
pub rows_one : (rows : List ℕ) {M M' : ℕ} {edges edges' vertices vertices' : List ℕ} → Yields M edges vertices rows → Yields M' edges' vertices' rows → (edges ≡ edges') × (vertices ≡ vertices')
rows_one rows {M} {M'} {edges} {edges'} {vertices} {vertices'} y y' =
    let t = taken M edges vertices rows y.taken in
    let t' = taken M' edges' vertices' rows y'.taken in
    let m : M ≡ M' = omega (arith, t.rows_length, t'.rows_length) in
    let b : Becomes M (each edges') (each vertices') (entry (2 * M) rows) = rw m y'.base in (
      ext_get_or 0 edges edges' (t.edges_row.exact ∙ m ∙ sym t'.edges_row.exact) (λ d l. let f : d < M = omega (arith, t.edges_row.exact) in omega (arith, (y.base.a0 d f).1, (b.a0 d f).1)),
      ext_get_or 0 vertices vertices' (t.vertices_row.exact ∙ m ∙ sym t'.vertices_row.exact) (λ d l. let f : d < M = omega (arith, t.vertices_row.exact) in omega (arith, (y.base.a1 d f).0, (b.a1 d f).0)),
    )
