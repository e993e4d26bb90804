-- What the tests of a partner's rows tell, and where each is first refused. Assumes nothing.
use mathlib.Core.Path.{◌≡◌, refl, sym, ap, ◌∙◌}
use mathlib.Core.Logic.{◌⊎◌, inl, inr}
use mathlib.Core.Bool.{Bool, true, false, ◌&&◌, ◌||◌, not, or-true, or-false, true≢false}
use mathlib.Core.List.{List, [], ◌∷◌}
use Prim.Native.Nat.{ℕ, zero, suc, ◌+◌, ◌*◌, ◌≤◌, ◌<◌}
use native.Mathlib.Omega.{arith}
use native.Mathlib.Numerals.{add-one}
use lib.ListN.{length, get_or, set}
use lib.Seq.{get_or-set_same, get_or-set_other}
use lib.Dec.{eqb, leb, ltb}
use borrow.Author.Tests.{ltb-true, ltb-false, lt-ltb, le-ltb, leb-true, le-leb, eqb-true, eqb-false, eq-eqb, ne_eqb, not-false}
use Rattle.maps.specs.Verdict.{Verdict, accepted, refused, when, ◌then◌, scan}
use Rattle.maps.specs.Sizes.{number4, has_length}
use Rattle.maps.specs.Table.{each}
use Rattle.maps.specs.Partner.{number2_m, outside, edges_back, had, number21, import_lent}
use Rattle.laws.proofs.Verdicts.{then_accepted, then_two, when_accepted, scan_accepted, scan_all, scan_first, and_both}
use Rattle.laws.proofs.Sizes.{lengths_exact, both_equal}
use Rattle.laws.proofs.Counting.{Mem, Nodup, minus, count_minus, count_le, pigeon, gather, length_gather, mem_gather, nodup_gather, sum_const}
use Rattle.combinatorial.specs.Rows.{Row, tests_of}

module _ (M i : ℕ) (row : List ℕ) where
  -- 5 at dart d
  abbrev at5 : ℕ → Verdict
  at5 d = when (not (ltb (each row d) M)) (refused 5 0 i d)

  pub inside_accepted : (m : ℕ) → ((d : ℕ) → d < m → each row d < M) → scan m at5 ≡ accepted
  inside_accepted m h = scan_all m at5 (λ d l. rw (lt-ltb (each row d) M (h d l)))

  pub inside_outside : ((d : ℕ) → d < M → each row d < M) → outside M i row ≡ accepted
  unfolding outside
  inside_outside h = inside_accepted M h

  pub outside_inside : outside M i row ≡ accepted → (d : ℕ) → d < M → each row d < M
  unfolding outside
  outside_inside e d l = ltb-true (each row d) M (not-false (ltb (each row d) M) (when_accepted (not (ltb (each row d) M)) 5 0 i d (scan_accepted M at5 e d l)))

  pub outside_first : (d : ℕ) → d < M → ((e : ℕ) → e < d → each row e < M) → M ≤ each row d → outside M i row ≡ refused 5 0 i d
  unfolding outside
  outside_first d l h m = scan_first M at5 d 5 0 i d l (inside_accepted d h) (rw (le-ltb (each row d) M m))

module _ (M : ℕ) (edges : List ℕ) where
  -- 6 at dart d
  abbrev at6 : ℕ → Verdict
  at6 d = when (not (eqb (each edges (each edges d)) d)) (refused 6 0 0 d)

  twice_accepted : (m : ℕ) → ((d : ℕ) → d < m → each edges (each edges d) ≡ d) → scan m at6 ≡ accepted
  twice_accepted m h = scan_all m at6 (λ d l. rw (eq-eqb (each edges (each edges d)) d (h d l)))

  pub twice_back : ((d : ℕ) → d < M → each edges (each edges d) ≡ d) → edges_back M edges ≡ accepted
  unfolding edges_back
  twice_back h = twice_accepted M h

  pub back_twice : edges_back M edges ≡ accepted → (d : ℕ) → d < M → each edges (each edges d) ≡ d
  unfolding edges_back
  back_twice e d l =
      let x = each edges (each edges d) in
      eqb-true x d (not-false (eqb x d) (when_accepted (not (eqb x d)) 6 0 0 d (scan_accepted M at6 e d l)))

  pub back_first : (d : ℕ) → d < M → ((e : ℕ) → e < d → each edges (each edges e) ≡ e) → (each edges (each edges d) ≡ d → ⊥) → edges_back M edges ≡ refused 6 0 0 d
  unfolding edges_back
  back_first d l h m = scan_first M at6 d 6 0 0 d l (twice_accepted d h) (rw (ne_eqb (each edges (each edges d)) d m))

-- a dart before had the image, or none had
pub had_one : (row : List ℕ) (image m d : ℕ) → d < m → each row d ≡ image → had row image m ≡ true
unfolding had
had_one row image zero d l e = absurd (omega arith)
had_one row image (suc m) d l e = go (eqb d m) refl (λ k. had_one row image m d k e)
  where
    go : (b : Bool) → eqb d m ≡ b → (d < m → had row image m ≡ true) → (had row image m || eqb (each row m) image) ≡ true
    go true q ih = let f : d ≡ m = eqb-true d m q in rw (eq-eqb (each row m) image (ap (each row) (sym f) ∙ e)) (or-true (had row image m))
    go false q ih = let ne : d ≡ m → ⊥ = eqb-false d m q in rw (ih (omega arith))

pub had_none : (row : List ℕ) (image m : ℕ) → ((d : ℕ) → d < m → each row d ≡ image → ⊥) → had row image m ≡ false
unfolding had
had_none row image zero h = refl
had_none row image (suc m) h = rw (had_none row image m (λ d l. h d (omega arith)), ne_eqb (each row m) image (h m (omega arith)))

-- one dart more, whose image gets its flag
pub flags_more : (row : List ℕ) (flags : List Bool) (d : ℕ) → each row d < length flags → (x : ℕ) → get_or flags x false ≡ had row x d → get_or (set flags (each row d) true) x false ≡ had row x (d + 1)
unfolding had
flags_more row flags d l x h = rw (add-one d) (go (eqb (each row d) x) refl)
  where
    go : (b : Bool) → eqb (each row d) x ≡ b → get_or (set flags (each row d) true) x false ≡ (had row x d || eqb (each row d) x)
    go true q = rw q (rw (← (eqb-true (each row d) x q)) (get_or-set_same flags (each row d) true false l) ∙ sym (or-true (had row x d)))
    go false q = rw q (get_or-set_other flags (each row d) x true false (λ e. eqb-false (each row d) x q (sym e)) ∙ h ∙ sym (or-false (had row x d)))

module _ (M : ℕ) (vertices : List ℕ) where
  -- 21 at dart d
  abbrev at21 : ℕ → Verdict
  at21 d = when (had vertices (each vertices d) d) (refused 21 0 1 d)

  -- no dart below m has the image of a dart before it
  abbrev pub FreshTo : ℕ → Type 0
  FreshTo m = (d : ℕ) → d < m → had vertices (each vertices d) d ≡ false

  fresh_accepted : (m : ℕ) → FreshTo m → scan m at21 ≡ accepted
  fresh_accepted m h = scan_all m at21 (λ d l. rw (h d l))

  pub fresh_21 : FreshTo M → number21 M vertices ≡ accepted
  unfolding number21
  fresh_21 h = fresh_accepted M h

  pub first_21 : (d : ℕ) → d < M → FreshTo d → had vertices (each vertices d) d ≡ true → number21 M vertices ≡ refused 21 0 1 d
  unfolding number21
  first_21 d l h t = scan_first M at21 d 21 0 1 d l (fresh_accepted d h) (rw t)

  -- no two darts have one image
  abbrev pub OneToOne : Type 0
  OneToOne = (d e : ℕ) → d < M → e < M → each vertices d ≡ each vertices e → d ≡ e

  pub one_21 : OneToOne → number21 M vertices ≡ accepted
  one_21 h = fresh_21 (λ d l. had_none vertices (each vertices d) d (λ e k f. omega (arith, h e d (omega arith) l f)))

  later : number21 M vertices ≡ accepted → (d e : ℕ) → d < e → e < M → each vertices d ≡ each vertices e → ⊥
  unfolding number21
  later a d e l k f = true≢false (sym (had_one vertices (each vertices e) e d l f) ∙ when_accepted (had vertices (each vertices e) e) 21 0 1 e (scan_accepted M at21 a e k))

  pub 21_one : number21 M vertices ≡ accepted → OneToOne
  21_one a d e ld le f = go (ltb d e) refl (ltb e d) refl
    where
      go : (x : Bool) → ltb d e ≡ x → (y : Bool) → ltb e d ≡ y → d ≡ e
      go true p y q = absurd (later a d e (ltb-true d e p) le f)
      go false p true q = absurd (later a e d (ltb-true e d q) ld (sym f))
      go false p false q = omega (arith, ltb-false d e p, ltb-false e d q)

  -- then each dart is an image: M images that leave one out would be M darts among fewer
  module _ (inside : (d : ℕ) → d < M → each vertices d < M) (one : OneToOne) where
    abbrev image : ℕ → List ℕ
    image d = each vertices d ∷ []

    found : (x m : ℕ) → ((d : ℕ) × (d < m) × (each vertices d ≡ x)) ⊎ ((d : ℕ) → d < m → each vertices d ≡ x → ⊥)
    found x zero = inr (λ d l e. omega arith)
    found x (suc m) = go (found x m) (eqb (each vertices m) x) refl
      where
        go : ((d : ℕ) × (d < m) × (each vertices d ≡ x)) ⊎ ((d : ℕ) → d < m → each vertices d ≡ x → ⊥) → (b : Bool) → eqb (each vertices m) x ≡ b
            → ((d : ℕ) × (d < suc m) × (each vertices d ≡ x)) ⊎ ((d : ℕ) → d < suc m → each vertices d ≡ x → ⊥)
        go (inl w) b q = inl (w.0, omega (arith, w.1), w.2)
        go (inr h) true q = inl (m, omega arith, eqb-true (each vertices m) x q)
        go (inr h) false q = inr (λ d l e. last d l e (eqb d m) refl)
          where
            last : (d : ℕ) → d < suc m → each vertices d ≡ x → (b : Bool) → eqb d m ≡ b → ⊥
            last d l e true p = eqb-false (each vertices m) x q (ap (each vertices) (sym (eqb-true d m p)) ∙ e)
            last d l e false p = let ne : d ≡ m → ⊥ = eqb-false d m p in h d (omega arith) e

    pub onto : (x : ℕ) → x < M → (d : ℕ) × (d < M) × (each vertices d ≡ x)
    onto x l = go (found x M)
      where
        go : ((d : ℕ) × (d < M) × (each vertices d ≡ x)) ⊎ ((d : ℕ) → d < M → each vertices d ≡ x → ⊥) → (d : ℕ) × (d < M) × (each vertices d ≡ x)
        go (inl w) = w
        go (inr h) =
            let all : ℕ → Bool = λ y. true in
            let apart : Nodup (gather image M) = nodup_gather image M (λ j k. (λ b. b, tt)) (λ j k y lj lk u v. same j k y lj lk u v) in
            let few = pigeon (gather image M) (minus all x) M apart (λ y u. let w = mem_gather image M y u in among y w.0 w.1 w.2 h) in
            absurd (omega (arith, few, length_gather image M, sum_const 1 M, count_minus all x M l refl, count_le all M))
          where
            same : (j k y : ℕ) → j < M → k < M → Mem y (image j) → Mem y (image k) → j ≡ k
            same j k y lj lk (inl e) (inl f) = one j k lj lk (sym e ∙ f)
            same j k y lj lk (inl e) (inr x5) = elim x5 [ ]
            same j k y lj lk (inr x5) _ = elim x5 [ ]

            among : (y j : ℕ) → j < M → Mem y (image j) → ((d : ℕ) → d < M → each vertices d ≡ x → ⊥) → (y < M) × (minus (λ z. true) x y ≡ true)
            among y j lj (inl e) h = (rw e (inside j lj), rw (ne_eqb y x (λ f. h j lj (sym e ∙ f))))
            among y j lj (inr x4) h = elim x4 [ ]

-- all tests of the import
pub record Taken (M : ℕ) (edges vertices rows : List ℕ) : Type 0 where
  pub one_dart : 1 ≤ M
  pub darts : M ≤ 2048
  pub edges_row : Row M edges
  pub vertices_row : Row M vertices
  pub rows_length : length rows ≡ 6 * M
  pub twice : (d : ℕ) → d < M → each edges (each edges d) ≡ d
  pub one_to_one : OneToOne M vertices

module _ (M : ℕ) (edges vertices rows : List ℕ) where
  -- 2 and 4, then the rows
  abbrev pub first : Verdict
  first = number2_m M then number4 (has_length edges M && (has_length vertices M && has_length rows (6 * M)))

  pub tests : import_lent M edges vertices rows ≡ first then tests_of M edges vertices
  unfolding import_lent
  tests = then_two (number2_m M) (number4 (has_length edges M && (has_length vertices M && has_length rows (6 * M)))) (tests_of M edges vertices)

  pub record Sized : Type 0 where
    pub one_dart : 1 ≤ M
    pub darts : M ≤ 2048
    pub edges_length : length edges ≡ M
    pub vertices_length : length vertices ≡ M
    pub rows_length : length rows ≡ 6 * M

  pub first_sized : first ≡ accepted → Sized
  unfolding number2_m
  first_sized e =
      let fit = has_length edges M && (has_length vertices M && has_length rows (6 * M)) in
      let r = then_accepted (number2_m M) (number4 fit) e in
      let two = and_both (leb 1 M) (leb M 2048) (not-false (leb 1 M && leb M 2048) (when_accepted (not (leb 1 M && leb M 2048)) 2 0 0 0 r.0)) in
      let s = both_equal (length edges) M (has_length vertices M && has_length rows (6 * M)) (lengths_exact fit r.1) in
      let t = both_equal (length vertices) M (has_length rows (6 * M)) s.1 in
      record { one_dart = leb-true 1 M two.0; darts = leb-true M 2048 two.1; edges_length = s.0; vertices_length = t.0; rows_length = eqb-true (length rows) (6 * M) t.1 }

  sized_first : Sized → first ≡ accepted
  unfolding number2_m number4
  sized_first z = rw (le-leb 1 M z.one_dart, le-leb M 2048 z.darts, eq-eqb (length edges) M z.edges_length, eq-eqb (length vertices) M z.vertices_length, eq-eqb (length rows) (6 * M) z.rows_length)

  pub taken : import_lent M edges vertices rows ≡ accepted → Taken M edges vertices rows
  taken e =
      let r = then_accepted first (tests_of M edges vertices) (sym tests ∙ e) in
      let z = first_sized r.0 in
      let s = then_accepted (outside M 0 edges) (outside M 1 vertices then (edges_back M edges then number21 M vertices)) r.1 in
      let t = then_accepted (outside M 1 vertices) (edges_back M edges then number21 M vertices) s.1 in
      let u = then_accepted (edges_back M edges) (number21 M vertices) t.1 in
      record {
        one_dart = z.one_dart;
        darts = z.darts;
        edges_row = record { exact = z.edges_length; inside = outside_inside M 0 edges s.0 };
        vertices_row = record { exact = z.vertices_length; inside = outside_inside M 1 vertices t.0 };
        rows_length = z.rows_length;
        twice = back_twice M edges u.0;
        one_to_one = 21_one M vertices u.1;
      }

  pub taken_accepted : Taken M edges vertices rows → import_lent M edges vertices rows ≡ accepted
  taken_accepted t =
      let z : Sized = record { one_dart = t.one_dart; darts = t.darts; edges_length = t.edges_row.exact; vertices_length = t.vertices_row.exact; rows_length = t.rows_length } in
      rw (tests, sized_first z, inside_outside M 0 edges t.edges_row.inside, inside_outside M 1 vertices t.vertices_row.inside, twice_back M edges t.twice) (one_21 M vertices t.one_to_one)
