-- What functions of the C interface answer where a job answers more than one value. Assumes nothing: these are definitions.
use Rattle.std.specs.Prelude.{◌≡◌, List, ℕ}
use Rattle.maps.specs.Verdict.{Verdict}
use Rattle.maps.specs.Folded.{Folded}
use Rattle.maps.specs.AddLevel.{add_lent, add_height}
use Rattle.maps.specs.Read.{read_lent, read_since}
use Rattle.maps.specs.Unfold.{unfold_lent, unfold_total, unfold_since}
use Rattle.maps.specs.Join.{join_lent, join_height}
use Rattle.combinatorial.specs.Left.{ExportLeft}
use Rattle.interface.specs.declared.ZgRefusal.{ZgRefusal}
use Rattle.interface.specs.declared.ZgLink.{ZgLink}
use Rattle.interface.specs.declared.ZgUnfolding.{ZgUnfolding}
use Rattle.interface.specs.declared.ZgHeight.{ZgHeight}
use Rattle.interface.specs.Flat.{refusal_for, link_for, unfolding_for, height_for}

-- what adding a level answers
abbrev pub add_for : Folded → List ℕ → List ℕ → ZgHeight
add_for f marks table = height_for (add_lent f marks table) (add_height f marks table)

-- what joining two kernels answers
abbrev pub join_for : Folded → List ℕ → ℕ → ZgHeight
join_for f table l = height_for (join_lent f table l) (join_height f table l)

-- what a direct reading answers
abbrev pub read_for : Folded → ℕ → ℕ → ℕ → ZgLink
read_for f l i d = link_for (read_lent f l i d) (read_since f l i d)

-- what an unfolding answers
abbrev pub unfold_for : Folded → ℕ → List ℕ → ZgUnfolding
unfold_for f l table = unfolding_for (unfold_lent f l table) (unfold_total f l table) (unfold_since f l table)

-- what taking it back answers, and leaves in the two rows, from those found
abbrev pub ExportFor : ℕ → ℕ → List ℕ → List ℕ → List ℕ → ZgRefusal → List ℕ → List ℕ → Type 0
ExportFor n N rows oldEdges oldVertices r edges vertices =
    (answer : Verdict) × (r ≡ refusal_for answer) × ExportLeft n N rows oldEdges oldVertices answer edges vertices
