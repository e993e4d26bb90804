-- Marks followed, and survivors relinked from the darts of a kernel, each link at both ends at once; with the clearing that is the removal. Assumes nothing.
use mathlib.Core.Path.{◌≡◌, refl, sym, ap, ◌∙◌}
use mathlib.Core.Logic.{◌⊎◌, inl, inr, ⊎_elim}
use mathlib.Core.Bool.{Bool, true, false, cond, ◌&&◌, not, true≢false}
use mathlib.Core.List.{List}
use Prim.Native.Nat.{ℕ, zero, suc, ◌+◌, ◌*◌, ◌-◌, ◌≤◌, ◌<◌}
use native.Mathlib.Omega.{arith}
use lib.ListN.{length, set}
use lib.Dec.{eqb, ltb}
use borrow.Author.Tests.{eqb-true, eqb-false, eq-eqb, ne_eqb, ltb-true, ltb-false, lt-ltb, le-ltb}
use Rattle.maps.specs.Map.{Involutions, Valid}
use Rattle.maps.specs.Mark.{is_mark, stay, between}
use Rattle.maps.specs.Removal.{marked, go_on, turns_from, removal}
use Rattle.maps.specs.Table.{entry, each, absent}
use Rattle.maps.specs.Explicit.{present, There}
use Rattle.laws.proofs.Verdicts.{and_both}
use Rattle.laws.proofs.Marks.{mark_byte, mark_rows}
use Rattle.laws.proofs.Tables.{explicit_of}
use Rattle.facts.proofs.Kernels.{removal_valid}
use Rattle.facts.proofs.Agreement.{go_on_local, turns_local}
use Rattle.kernels.specs.Strings.{kernel_row, First, Along, Marks}
use Rattle.kernels.specs.Ready.{Place, Ready, Followed, left, relinked, first_of_link, TableIs, Cleared, removed_from}
use Rattle.kernels.proofs.Strung.{in_kernel_lem, mark_is}
use Rattle.kernels.specs.Relinked.{Relinking, Entering, RelinkTo, turns_at, turns_to}
use Rattle.kernels.proofs.Links.{turns_next}
use Rattle.kernels.proofs.Places.{place, shape_still, table_set}

-- a dart that is not marked i is not passed; one that is, is
module _ (a : Involutions) (n : ℕ) (mark : ℕ → ℕ) (i e : ℕ) where
  go_stays : (times : ℕ) → marked a n mark i e ≡ false → go_on a n mark times i e ≡ e
  unfolding go_on
  go_stays zero q = refl
  go_stays (suc times) q = rw (q, go_on)

  no_turns : (times : ℕ) → marked a n mark i e ≡ false → turns_from a n mark times i e ≡ 0
  unfolding turns_from
  no_turns zero q = refl
  no_turns (suc times) q = rw (q, turns_from)

  go_on_lem : (times : ℕ) → 0 < times → marked a n mark i e ≡ true → (go_on a n mark times i e ≡ go_on a n mark (times - 1) i (a i (a (between (mark e)).1 e))) × (turns_from a n mark times i e ≡ suc (turns_from a n mark (times - 1) i (a i (a (between (mark e)).1 e))))
  unfolding go_on turns_from
  go_on_lem zero l q = absurd (omega arith)
  go_on_lem (suc times) l q = let k : suc times - 1 ≡ times = omega arith in (rw (k, q, go_on), rw (k, q, turns_from))

-- a way of so many turns, and where it ends
abbrev pub Goes : Involutions → ℕ → (ℕ → ℕ) → ℕ → ℕ → ℕ → ℕ → ℕ → Type 0
Goes a n mark times i d e turns = (go_on a n mark times i d ≡ e) × (turns_from a n mark times i d ≡ turns)

-- what following the marks of kernel l does at dart e, where Λ is l or is not, Δ is m, and s is the second row of m
module _ {n N l : ℕ} {lambda delta table : List ℕ} (k : Marks n N l lambda delta) (w : Followed n N (kernel_row lambda delta l) table) (i e : ℕ) (le : e < N) where
  abbrev row : ℕ → ℕ
  row = kernel_row lambda delta l

  -- the way stays at e
  stays : marked (entry N table) n row i e ≡ false → (times : ℕ) → Goes (entry N table) n row times i e e 0
  stays q times = (go_stays (entry N table) n row i e times q, no_turns (entry N table) n row i e times q)

  pub follow_leaves : eqb (each lambda e) l ≡ false → (times : ℕ) → Goes (entry N table) n row times i e e 0
  follow_leaves q = stays (rw (sym (in_kernel_lem k w.shape.dimension e le) ∙ q))

  module _ (q : eqb (each lambda e) l ≡ true) {m : ℕ} (is : m ≡ each delta e) where
    here : is_mark n (row e) ≡ true
    here = sym (in_kernel_lem k w.shape.dimension e le) ∙ q

    row_is : m ≡ row e
    row_is = is ∙ mark_is k w.shape.dimension e le here

    pub follow_byte : m < stay
    follow_byte = let z = w.shape.dimension in mark_byte n m (omega arith) (rw row_is here)

    pub follow_stops : ((between m).0 ≡ i → ⊥) → (times : ℕ) → Goes (entry N table) n row times i e e 0
    follow_stops ne = stays (rw (here, ← row_is) (ne_eqb (between m).0 i ne))

    module _ (li : i ≤ n) {s : ℕ} (ws : s ≡ (between m).1) where
      pub follow_row : s ≤ n
      follow_row = rw (ws, row_is) (mark_rows n (row e) here).second

      pub follow_inside : {y : ℕ} → y ≡ entry N table s e → (y < N) × (entry N table i y < N)
      follow_inside {y} wy =
          let ly : y < N = rw wy (w.inside s e follow_row le here) in
          let same : row y ≡ row e = rw (wy, ws, row_is) (w.whole e le here) in
          (ly, w.inside i y li ly (rw same here))

      pub follow_on : {y z : ℕ} → y ≡ entry N table s e → z ≡ entry N table i y → (between m).0 ≡ i → (times : ℕ) → 0 < times
          → Goes (entry N table) n row times i e (go_on (entry N table) n row (times - 1) i z) (suc (turns_from (entry N table) n row (times - 1) i z))
      follow_on {y} {z} wy wz f times l =
          let g = go_on_lem (entry N table) n row i e times l (rw (here, ← row_is, eq-eqb (between m).0 i f)) in
          let is : entry N table i (entry N table (between (row e)).1 e) ≡ z = rw (wz, wy, ws, row_is) in
          rw is at g

-- a walk by row i from start stands after so many turns at dart e of kernel l, with its mark and the second row of that
pub record Following (N l : ℕ) (lambda delta table : List ℕ) (i start mark second turns e : ℕ) : Type 0 where
  pub dart : e < N
  pub removed : eqb (each lambda e) l ≡ true
  pub mark_is : mark ≡ each delta e
  pub first_row : (between mark).0 ≡ i
  pub second_row : second ≡ (between mark).1
  pub fits : turns ≤ N
  pub rest : (n : ℕ) → Marks n N l lambda delta → Followed n N (kernel_row lambda delta l) table → i ≤ n
      → Goes (entry N table) n (kernel_row lambda delta l) N i start (go_on (entry N table) n (kernel_row lambda delta l) (N - turns) i e) (turns + turns_from (entry N table) n (kernel_row lambda delta l) (N - turns) i e)

-- its next turn: by the second row to y, and by row i to z
module _ {n N l : ℕ} {lambda delta table : List ℕ} (k : Marks n N l lambda delta) (w : Followed n N (kernel_row lambda delta l) table) {i start mark second turns e : ℕ} (li : i ≤ n)
    (s : Following N l lambda delta table i start mark second turns e) where
  pub turn_row : second ≤ n
  turn_row = follow_row k w i e s.dart s.removed s.mark_is li s.second_row

  module _ {y : ℕ} (wy : y ≡ entry N table second e) where
    pub turn_first : y < N
    turn_first = (follow_inside k w i e s.dart s.removed s.mark_is li s.second_row wy).0

    module _ {z : ℕ} (wz : z ≡ entry N table i y) where
      pub turn_dart : z < N
      turn_dart = rw wz (follow_inside k w i e s.dart s.removed s.mark_is li s.second_row wy).1

      module _ (more : turns < N) where
        turned : (n : ℕ) → Marks n N l lambda delta → Followed n N (kernel_row lambda delta l) table → i ≤ n
            → Goes (entry N table) n (kernel_row lambda delta l) N i start (go_on (entry N table) n (kernel_row lambda delta l) (N - (turns + 1)) i z) (turns + 1 + turns_from (entry N table) n (kernel_row lambda delta l) (N - (turns + 1)) i z)
        turned n k w li =
            let r = s.rest n k w li in
            let less : N - turns - 1 ≡ N - (turns + 1) = omega arith in
            let f = rw less at (follow_on k w i e s.dart s.removed s.mark_is li s.second_row wy wz s.first_row (N - turns) (omega arith)) in
            (r.0 ∙ f.0, omega (arith, r.1, f.1))

        -- it ends at z
        ends : ((times : ℕ) → Goes (entry N table) n (kernel_row lambda delta l) times i z z 0) → Goes (entry N table) n (kernel_row lambda delta l) N i start z (turns + 1)
        ends stay =
            let t = turned n k w li in
            let g = stay (N - (turns + 1)) in
            (t.0 ∙ g.0, omega (arith, t.1, g.1))

        -- z is a survivor
        pub turn_leaves : eqb (each lambda z) l ≡ false → Goes (entry N table) n (kernel_row lambda delta l) N i start z (turns + 1)
        turn_leaves q = ends (follow_leaves k w i z turn_dart q)

        -- z is of the kernel, and has mark m
        module _ (q : eqb (each lambda z) l ≡ true) {m : ℕ} (is : m ≡ each delta z) where
          pub turn_byte : m < stay
          turn_byte = follow_byte k w i z turn_dart q is

          pub turn_stops : ((between m).0 ≡ i → ⊥) → Goes (entry N table) n (kernel_row lambda delta l) N i start z (turns + 1)
          turn_stops ne = ends (follow_stops k w i z turn_dart q is ne)

          pub turn_on : {next : ℕ} → (between m).0 ≡ i → next ≡ (between m).1 → Following N l lambda delta table i start m next (turns + 1) z
          turn_on first second = record { dart = turn_dart; removed = q; mark_is = is; first_row = first; second_row = second; fits = omega arith; rest = turned }

-- a kernel can be followed, and so can a table that agrees with its level at the darts marked
module _ {n N : ℕ} {mark : ℕ → ℕ} {before : List ℕ} (r : Ready n N mark before) (after : List ℕ) (long : length after ≡ length before) (agree : (t d : ℕ) → d < N → is_mark n (mark d) ≡ true → entry N before t d ≡ entry N after t d) where
  inside : (t d : ℕ) → t ≤ n → d < N → is_mark n (mark d) ≡ true → entry N before t d < N
  inside t d lt ld q = (r.tested.sound.valid.inside t d lt (ld, r.tested.marked d ld q)).0

  whole : (d : ℕ) → d < N → is_mark n (mark d) ≡ true → mark (entry N before (between (mark d)).1 d) ≡ mark d
  whole d ld q = let m = mark_rows n (mark d) q in r.kernel.whole d (between (mark d)).1 (ld, r.tested.marked d ld q) q m.second (λ e. m.two (sym e))

  pub ready_followed : Followed n N mark after
  ready_followed = record {
    shape = shape_still r.tested.shape long;
    inside = λ t d lt ld q. rw (← (agree t d ld q)) (inside t d lt ld q);
    whole = λ d ld q. rw (← (agree (between (mark d)).1 d ld q)) (whole d ld q);
  }

  go_still : (times i d : ℕ) → i ≤ n → d < N → go_on (entry N after) n mark times i d ≡ go_on (entry N before) n mark times i d
  go_still times i d li ld = sym (go_on_local (entry N before) (entry N after) n (λ d. d < N) mark mark inside whole (λ t d lt. agree t d) (λ d l. refl) times i d li ld)

  turns_still : (times i d : ℕ) → i ≤ n → d < N → turns_from (entry N after) n mark times i d ≡ turns_from (entry N before) n mark times i d
  turns_still times i d li ld = sym (turns_local (entry N before) (entry N after) n (λ d. d < N) mark mark inside whole (λ t d lt. agree t d) (λ d l. refl) times i d li ld)

-- the entries of survivors that lead on past the marks, and those that stay
module _ (n N : ℕ) (mark : ℕ → ℕ) (before : List ℕ) (t k : ℕ) where
  relinked_on : entry N before t k < N → is_mark n (mark k) ≡ false → relinked n N mark before t k ≡ removal (entry N before) n mark N t k
  unfolding relinked removal
  relinked_on l q = rw (lt-ltb (entry N before t k) N l, q)

  relinked_out : N ≤ entry N before t k → relinked n N mark before t k ≡ entry N before t k
  unfolding relinked
  relinked_out l = rw (le-ltb (entry N before t k) N l)

  relinked_marked : is_mark n (mark k) ≡ true → relinked n N mark before t k ≡ entry N before t k
  unfolding relinked
  relinked_marked q = rw q (go (ltb (entry N before t k) N))
    where
      go : (x : Bool) → cond (x && false) (go_on (entry N before) n mark N t (entry N before t k)) (entry N before t k) ≡ entry N before t k
      go false = refl
      go true = refl

  relinked_stays : marked (entry N before) n mark t (entry N before t k) ≡ false → relinked n N mark before t k ≡ entry N before t k
  unfolding relinked
  relinked_stays q = go (ltb (entry N before t k) N && not (is_mark n (mark k)))
    where
      go : (x : Bool) → cond x (go_on (entry N before) n mark N t (entry N before t k)) (entry N before t k) ≡ entry N before t k
      go false = refl
      go true = go_stays (entry N before) n mark t (entry N before t k) N q

-- an entry that need not lead on does already
settled : {n N : ℕ} {mark : ℕ → ℕ} {before after : List ℕ} {d : ℕ} → Relinking n N mark before after d → (t k : ℕ) → k < N → relinked n N mark before t k ≡ entry N before t k → entry N after t k ≡ relinked n N mark before t k
settled to t k lk q = ⊎_elim (λ e. e ∙ sym q) (λ e. e) (to.either t k lk)

-- an entry is stored that leads on past the marks
module _ {n N : ℕ} {mark : ℕ → ℕ} {before after : List ℕ} {d : ℕ} (to : Relinking n N mark before after d) {i x : ℕ} (p : Place N before i x) (v : ℕ) (is : v ≡ relinked n N mark before i x) where
  stored : TableIs N (λ t k. cond (eqb t i && eqb k x) v (entry N after t k)) before (set after (i * N + x) v)
  stored = table_set {after = after} (record { long = to.long; rows = λ t k lk. refl }) p v (rw (eq-eqb i i refl, eq-eqb x x refl)) (λ t k lk ne. go t k ne (eqb t i) refl (eqb k x) refl)
    where
      go : (t k : ℕ) → (t ≡ i → k ≡ x → ⊥) → (y : Bool) → eqb t i ≡ y → (z : Bool) → eqb k x ≡ z → entry N after t k ≡ cond (eqb t i && eqb k x) v (entry N after t k)
      go t k ne false q z u = rw q
      go t k ne true q false u = rw (q, u)
      go t k ne true q true u = absurd (ne (eqb-true t i q) (eqb-true k x u))

  pub put_here : entry N (set after (i * N + x) v) i x ≡ relinked n N mark before i x
  put_here = stored.rows i x p.dart ∙ rw (eq-eqb i i refl, eq-eqb x x refl) is

  pub put_other : (t k : ℕ) → k < N → (t ≡ i → k ≡ x → ⊥) → entry N (set after (i * N + x) v) t k ≡ entry N after t k
  put_other t k lk ne = stored.rows t k lk ∙ go (eqb t i) refl (eqb k x) refl
    where
      go : (y : Bool) → eqb t i ≡ y → (z : Bool) → eqb k x ≡ z → cond (eqb t i && eqb k x) v (entry N after t k) ≡ entry N after t k
      go false q z u = rw q
      go true q false u = rw (q, u)
      go true q true u = absurd (ne (eqb-true t i q) (eqb-true k x u))

  put_either : (t k : ℕ) → k < N → (entry N (set after (i * N + x) v) t k ≡ entry N after t k) ⊎ (entry N (set after (i * N + x) v) t k ≡ relinked n N mark before t k)
  put_either t k lk = go (eqb t i) refl (eqb k x) refl
    where
      go : (y : Bool) → eqb t i ≡ y → (z : Bool) → eqb k x ≡ z → (entry N (set after (i * N + x) v) t k ≡ entry N after t k) ⊎ (entry N (set after (i * N + x) v) t k ≡ relinked n N mark before t k)
      go false q z u = inl (put_other t k lk (λ e f. eqb-false t i q e))
      go true q false u = inl (put_other t k lk (λ e f. eqb-false k x u f))
      go true q true u = inr (rw (eqb-true t i q, eqb-true k x u) put_here)

  pub put_kept : (t k : ℕ) → k < N → entry N after t k ≡ relinked n N mark before t k → entry N (set after (i * N + x) v) t k ≡ relinked n N mark before t k
  put_kept t k lk e = ⊎_elim (λ s. s ∙ e) (λ s. s) (put_either t k lk)

  pub put_to : Relinking n N mark before (set after (i * N + x) v) d
  put_to = record {
    long = stored.long;
    either = λ t k lk. ⊎_elim (λ s. ⊎_elim (λ e. inl (s ∙ e)) (λ e. inr (s ∙ e)) (to.either t k lk)) (λ s. inr s) (put_either t k lk);
    passed = λ t k lk l m. put_kept t k lk (to.passed t k lk l m);
  }

module _ {n N first : ℕ} {mark : ℕ → ℕ} {next before : List ℕ} (r : Ready n N mark before) (w : Along (λ x. is_mark n (mark x)) N first next) where
  abbrev a : Involutions
  a = entry N before

  -- what the kernel leaves is a map: each of its links leads back
  linked : Valid (removal a n mark N) n (λ d. There N (present N before) d × (is_mark n (mark d) ≡ false))
  linked = removal_valid a n mark (There N (present N before)) r.tested.sound.valid r.kernel N (λ d p. p.0)

  -- where the link of a survivor ends, it leads into the kernel too
  module _ (t k : ℕ) (s : Entering n N mark before t k) where
    abbrev end : ℕ
    end = removal a n mark N t k

    end_left : There N (present N before) end × (is_mark n (mark end) ≡ false)
    end_left = linked.inside t k s.row (s.there, s.stays)

    end_back : removal a n mark N t end ≡ k
    end_back = linked.twice t k s.row (s.there, s.stays)

    end_inside : a t end < N
    end_inside = (r.tested.sound.valid.inside t end s.row end_left.0).0

    end_enters : marked a n mark t (a t end) ≡ true
    unfolding removal
    end_enters = go (marked a n mark t (a t end)) refl
      where
        go : (x : Bool) → marked a n mark t (a t end) ≡ x → marked a n mark t (a t end) ≡ true
        go true q = q
        go false q =
            let to-k : a t end ≡ k = sym (go_stays a n mark t (a t end) N q) ∙ end_back in
            let from-k : a t k ≡ end = ap (a t) (sym to-k) ∙ r.tested.sound.valid.twice t end s.row end_left.0 in
            absurd (true≢false (sym s.enters ∙ rw (from-k, end_left.1)))

    entering_end : Entering n N mark before t end
    entering_end = record { row = s.row; there = end_left.0; stays = end_left.1; enters = end_enters }

  pub relink_start : RelinkTo n N mark before before first
  relink_start = record {
    here = w.start.here;
    table = record {
      long = refl;
      either = λ t k lk. inl refl;
      passed = λ t k lk l m. sym (relinked_stays n N mark before t k (rw (w.start.none (a t k) (omega arith) m l)));
    };
    set_back = λ t k s m. absurd (true≢false (sym (end_enters t k s) ∙ rw (w.start.none (a t (end t k s)) (omega arith) m (end_inside t k s))));
    unset = λ t k s m f. refl;
  }

  module _ {after : List ℕ} {d : ℕ} (to : RelinkTo n N mark before after d) where
    -- all darts: every row is relinked
    pub relink_all : N ≤ d → TableIs N (relinked n N mark before) before after
    relink_all m = record { long = to.table.long; rows = λ t k lk. go t k lk (ltb (a t k) N) refl }
      where
        go : (t k : ℕ) → k < N → (x : Bool) → ltb (a t k) N ≡ x → entry N after t k ≡ relinked n N mark before t k
        go t k lk true q = let l = ltb-true (a t k) N q in to.table.passed t k lk l (omega arith)
        go t k lk false q = settled to.table t k lk (relinked_out n N mark before t k (ltb-false (a t k) N q))

    -- dart d of the kernel, whose mark has the first row i
    module _ (ld : d < N) {i : ℕ} (is : i ≡ (between (mark d)).0) where
      pub low : i ≤ n
      low = rw is (mark_rows n (mark d) (to.here ld)).first

      -- the entries of the darts marked still stand
      agrees : (t k : ℕ) → k < N → is_mark n (mark k) ≡ true → a t k ≡ entry N after t k
      agrees t k lk q = let e = relinked_marked n N mark before t k q in sym (settled to.table t k lk e ∙ e)

      pub relink_followed : Followed n N mark after
      relink_followed = ready_followed r after to.table.long agrees

      -- b is where dart d leads by a_i
      module _ {b : ℕ} (wb : b ≡ entry N after i d) where
        b_is : b ≡ a i d
        b_is = wb ∙ sym (agrees i d ld (to.here ld))

        there : There N (present N before) d
        there = (ld, r.tested.marked d ld (to.here ld))

        b_there : There N (present N before) b
        b_there = rw b_is (r.tested.sound.valid.inside i d low there)

        pub b_dart : b < N
        b_dart = b_there.0

        back : a i b ≡ d
        back = rw b_is (r.tested.sound.valid.twice i d low there)

        -- no other entry that passes the marks leads to d
        only : (t k : ℕ) → k < N → a t k ≡ d → marked a n mark t (a t k) ≡ true → (t ≡ i) × (k ≡ b)
        only t k lk e m =
            let ti : t ≡ i = sym (eqb-true (between (mark (a t k))).0 t (and_both (is_mark n (mark (a t k))) (eqb (between (mark (a t k))).0 t) m).1) ∙ ap (λ (x : ℕ). (between (mark x)).0) e ∙ sym is in
            (ti, go (present N before k) refl ti)
          where
            go : (x : Bool) → present N before k ≡ x → t ≡ i → k ≡ b
            go true p ti = let lt : t ≤ n = rw ti low in sym (r.tested.sound.valid.twice t k lt (lk, p)) ∙ ap (a t) e ∙ ap (λ (u : ℕ). a u d) ti ∙ sym b_is
            go false p ti = let lt : t ≤ n = rw ti low in absurd (omega (arith, r.tested.sound.empty t k lt lk p, r.tested.shape.darts))

        -- the next dart of the kernel is e
        module _ {e : ℕ} (we : e ≡ each next d) where
          on : First (λ x. is_mark n (mark x)) N (d + 1) e
          on = rw we (w.onward d ld (to.here ld))

          pub further : d < e
          further = omega (arith, on.after)

          -- what leads to a dart before e leads to one before d, or is the entry of b, or stays; and so for what leads back to one
          onward : {table : List ℕ} → Relinking n N mark before table d → entry N table i b ≡ relinked n N mark before i b
              → ((s : Entering n N mark before i b) → entry N table i (end i b s) ≡ relinked n N mark before i (end i b s))
              → ((t k : ℕ) → Entering n N mark before t k → entry N after t k ≡ relinked n N mark before t k → entry N table t k ≡ relinked n N mark before t k)
              → ((t k : ℕ) → Entering n N mark before t k → (a t k ≡ d → ⊥) → (a t (removal a n mark N t k) ≡ d → ⊥) → entry N table t k ≡ entry N after t k)
              → RelinkTo n N mark before table e
          onward {table} v own far kept same = record {
            here = on.here;
            table = record { long = v.long; either = v.either; passed = λ t k lk l m. go t k lk l m (ltb (a t k) d) refl (eqb (a t k) d) refl (marked a n mark t (a t k)) refl };
            set_back = λ t k s m. go_back t k s m (ltb (a t (end t k s)) d) refl (eqb (a t (end t k s)) d) refl;
            unset = λ t k s m f. same t k s (λ z. omega (arith, further)) (λ z. omega (arith, further)) ∙ to.unset t k s (omega (arith, further)) (omega (arith, further));
          }
            where
              go : (t k : ℕ) → k < N → a t k < N → a t k < e → (y : Bool) → ltb (a t k) d ≡ y → (u : Bool) → eqb (a t k) d ≡ u → (z : Bool) → marked a n mark t (a t k) ≡ z → entry N table t k ≡ relinked n N mark before t k
              go t k lk l m true p u f z g = v.passed t k lk l (ltb-true (a t k) d p)
              go t k lk l m false p u f false g = settled v t k lk (relinked_stays n N mark before t k g)
              go t k lk l m false p true f true g = let o = only t k lk (eqb-true (a t k) d f) g in rw (o.0, o.1) own
              go t k lk l m false p false f true g =
                  let ge = ltb-false (a t k) d p in
                  let h : a t k ≡ d → ⊥ = eqb-false (a t k) d f in
                  settled v t k lk (relinked_stays n N mark before t k (rw (on.none (a t k) (omega arith) m l)))

              go_back : (t k : ℕ) (s : Entering n N mark before t k) → a t (end t k s) < e → (y : Bool) → ltb (a t (end t k s)) d ≡ y → (u : Bool) → eqb (a t (end t k s)) d ≡ u → entry N table t k ≡ relinked n N mark before t k
              go_back t k s m true p u f = kept t k s (to.set_back t k s (ltb-true (a t (end t k s)) d p))
              go_back t k s m false p true f =
                  let o = only t (end t k s) (end_left t k s).0.0 (eqb-true (a t (end t k s)) d f) (end_enters t k s) in
                  let at_b : Entering n N mark before i b = rw (o.1, o.0) at (entering_end t k s) in
                  let k-is : removal a n mark N i b ≡ k = rw (o.1, o.0) at (end_back t k s) in
                  rw (o.0, ← k-is) (far at_b)
              go_back t k s m false p false f =
                  let ge = ltb-false (a t (end t k s)) d p in
                  let h : a t (end t k s) ≡ d → ⊥ = eqb-false (a t (end t k s)) d f in
                  absurd (true≢false (sym (end_enters t k s) ∙ rw (on.none (a t (end t k s)) (omega arith) m (end_inside t k s))))

          -- the turns of the links begun before e are those of the links before d, and of that of d, if it begins one
          counted : {c : Bool} → first_of_link n N mark before d ≡ c → turns_to n N mark before e ≡ turns_to n N mark before d + cond c (turns_at n N mark before d) 0
          counted q = turns_next n N mark before w d e ld on ∙ ap (λ (x : Bool). turns_to n N mark before d + cond x (turns_at n N mark before d) 0) q

          -- b is of the kernel too: nothing is written
          pub relink_kept : is_mark n (mark b) ≡ true → RelinkTo n N mark before after e
          relink_kept q = onward to.table (settled to.table i b b_dart (relinked_marked n N mark before i b q)) (λ s. absurd (true≢false (sym q ∙ s.stays))) (λ t k s z. z) (λ t k s f g. refl)

          pub count_kept : is_mark n (mark b) ≡ true → turns_to n N mark before e ≡ turns_to n N mark before d
          unfolding first_of_link
          count_kept q = omega (arith, counted {c = false} (rw (to.here ld, ← is, ← b_is, q)))

          module _ (q : is_mark n (mark b) ≡ false) where
            own : Entering n N mark before i b
            own = record { row = low; there = b_there; stays = q; enters = rw (back, to.here ld, eq-eqb (between (mark d)).0 i (sym is)) }

            begun : first_of_link n N mark before d ≡ not (ltb (a i (end i b own)) d)
            unfolding first_of_link removal
            begun = rw (to.here ld, ← is, ← b_is, q, back)

            -- b no longer leads back: its link was set from the other end
            module _ (ne : entry N after i b ≡ d → ⊥) where
              before_d : a i (end i b own) < d
              before_d = go (ltb (a i (end i b own)) d) refl
                where
                  go : (x : Bool) → ltb (a i (end i b own)) d ≡ x → a i (end i b own) < d
                  go true p = ltb-true (a i (end i b own)) d p
                  go false p = absurd (ne (to.unset i b own (omega (arith, back)) (ltb-false (a i (end i b own)) d p) ∙ back))

              pub relink_known : RelinkTo n N mark before after e
              relink_known =
                  onward to.table (to.set_back i b own before_d) (λ s. to.table.passed i (end i b own) (end_left i b own).0.0 (end_inside i b own) before_d) (λ t k s z. z) (λ t k s f g. refl)

              pub count_known : turns_to n N mark before e ≡ turns_to n N mark before d
              count_known = omega (arith, counted {c = false} (begun ∙ rw (lt-ltb (a i (end i b own)) d before_d)))

            -- b leads back: no dart before d is of its link
            pub count_joined : entry N after i b ≡ d → turns_to n N mark before e ≡ turns_to n N mark before d + turns_from (entry N after) n mark N i d
            count_joined leads =
                let same : turns_at n N mark before d ≡ turns_from (entry N after) n mark N i d = rw (← is) (sym (turns_still r after to.table.long agrees N i d low ld)) in
                omega (arith, counted {c = true} (begun ∙ go (ltb (a i (end i b own)) d) refl), same)
              where
                go : (x : Bool) → ltb (a i (end i b own)) d ≡ x → not (ltb (a i (end i b own)) d) ≡ true
                go false p = rw p
                go true p =
                    let d-is : d ≡ end i b own = sym leads ∙ to.set_back i b own (ltb-true (a i (end i b own)) d p) ∙ relinked_on n N mark before i b (rw back ld) q in
                    absurd (true≢false (sym (to.here ld) ∙ ap (λ (x : ℕ). is_mark n (mark x)) d-is ∙ (end_left i b own).1))

            -- and the marks past it lead to f: each leads to the other
            module _ {f : ℕ} (wf : f ≡ go_on (entry N after) n mark N i d) where
              f_is : f ≡ end i b own
              unfolding removal
              f_is = wf ∙ go_still r after to.table.long agrees N i d low ld ∙ rw back

              f_dart : f < N
              f_dart = rw f_is (end_left i b own).0.0

              from_b : f ≡ relinked n N mark before i b
              from_b = f_is ∙ sym (relinked_on n N mark before i b (rw back ld) q)

              from_f : b ≡ relinked n N mark before i f
              from_f = rw f_is (sym (end_back i b own) ∙ sym (relinked_on n N mark before i (end i b own) (end_inside i b own) (end_left i b own).1))

              pub relink_joined : RelinkTo n N mark before (set (set after (i * N + b) f) (i * N + f) b) e
              relink_joined =
                  let place-b = place r.tested.shape i b low b_dart in
                  let place-f = place r.tested.shape i f low f_dart in
                  let one = put_to to.table place-b f from_b in
                  onward (put_to one place-f b from_f) (put_kept one place-f b from_f i b b_dart (put_here to.table place-b f from_b))
                  (λ s. rw (← f_is) (put_here one place-f b from_f))
                  (λ t k s z. put_kept one place-f b from_f t k s.there.0 (put_kept to.table place-b f from_b t k s.there.0 z))
                  (λ t k s g h.
                  put_other one place-f b from_f t k s.there.0 (λ x y. h (rw (x, y, f_is, end_back i b own) back))
                  ∙ put_other to.table place-b f from_b t k s.there.0 (λ x y. g (rw (x, y) back)))

-- all rows relinked, then all cleared: the removal
pub removed_is : {n N : ℕ} {mark : ℕ → ℕ} {before middle after : List ℕ} → Ready n N mark before → TableIs N (relinked n N mark before) before middle → Cleared N (λ t k. is_mark n (mark k) && ltb t (n + 1)) middle after → after ≡ removed_from n N mark before
unfolding relinked removal
removed_is {n} {N} {mark} {before} {middle} {after} r m c =
    explicit_of (removal (entry N before) n mark N) n N (left n N mark before) after (c.long ∙ m.long ∙ r.tested.shape.exact)
    (λ i d li ld. c.rows i d ld ∙ rw (m.rows i d ld, lt-ltb i (n + 1) (omega arith)) (go i d li ld (is_mark n (mark d)) refl (present N before d) refl))
  where
    go : (i d : ℕ) → i ≤ n → d < N → (x : Bool) → is_mark n (mark d) ≡ x → (y : Bool) → present N before d ≡ y → cond (is_mark n (mark d) && true) absent (relinked n N mark before i d) ≡ cond (left n N mark before d) (removal (entry N before) n mark N i d) absent
    go i d li ld true q false p = rw (q, p)
    go i d li ld true q true p = rw (q, p)
    go i d li ld false q true p = rw (q, p, lt-ltb (entry N before i d) N (r.tested.sound.valid.inside i d li (ld, p)).0)
    go i d li ld false q false p =
        let gone = r.tested.sound.empty i d li ld p in
        rw (q, p, le-ltb (entry N before i d) N (omega (arith, gone, r.tested.shape.darts))) gone
