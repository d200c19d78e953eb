-- The tree that the tables stand for, and how each call changes it.
pub mod Counts
pub mod Items
pub mod Keeps
pub mod Makes
pub mod Moves
pub mod Prunes
pub mod Slots
pub mod Wells
pub mod Writes
use Rattle.std.proofs.Common.{◌≡◌, true, None, Ok, sym, refl, ap, ◌∙◌}
use Rattle.model.specs.Image.{Image, writes}
use Rattle.model.specs.Refusals.{Call, closing, opening, find, mkdir, prune, unlink, read, write, move, next, book, picked}
use Rattle.model.specs.Tables.{Tables, load}
use Rattle.model.specs.Tree.{bare}
use Rattle.model.specs.History.{change}
use Rattle.model.specs.Volume.{tree_of, checks, tables_after, sector_writes}
use Rattle.model.specs.Law.{formatted, whole, format_refusal}
use Rattle.model.proofs.Ready.{Ready}
use Rattle.model.proofs.Tables.Loads.{same_ok, load-holds, holds-load}
use Rattle.model.proofs.Trees.Makes.{mkdir_follows, unlink_follows}
use Rattle.model.proofs.Trees.Moves.{move_follows}
use Rattle.model.proofs.Trees.Prunes.{prune_follows}
use Rattle.model.proofs.Trees.Wells.{wellformed}
use Rattle.model.proofs.Trees.Writes.{write_follows}
use Rattle.model.proofs.Calls.Formats.{loads, format_next}
use Rattle.model.proofs.Books.{Wellformed}

-- the tree of a ready volume is one that books tell apart
pub tree_wellformed : (i : Image) (t : Tables) → Ready i t → Wellformed (tree_of t i)
tree_wellformed i t r = wellformed i t r.sectors r.shaped r.facts

pub tree_follows : (i : Image) (t : Tables) → Ready i t → (c : Call) → picked (checks t i c) ≡ None → tree_of (tables_after t c) (writes (sector_writes t c (tables_after t c)) i).image ≡ change (tree_of t i) c
tree_follows i t r opening accepted = refl
tree_follows i t r closing accepted = refl
tree_follows i t r (find d p) accepted = refl
tree_follows i t r (mkdir d p) accepted = mkdir_follows i t r.shaped r.facts d p accepted
tree_follows i t r (unlink d p) accepted = unlink_follows i t r.shaped r.facts d p accepted
tree_follows i t r (prune d p) accepted = prune_follows i t r.shaped r.facts d p accepted
tree_follows i t r (read d p b) accepted = refl
tree_follows i t r (write d p w) accepted = write_follows i t r.shaped r.facts d p w accepted
tree_follows i t r (move d p q) accepted = move_follows i t r.shaped r.facts d p q accepted
tree_follows i t r (next d p a) accepted = refl
tree_follows i t r (book b) accepted = refl

-- a new volume holds a bare root
pub format_bare : (i : Image) → whole i ≡ true → format_refusal i ≡ None → (t : Tables) → load (formatted i) ≡ Ok t → tree_of t (formatted i) ≡ bare
format_bare i w f t e =
    let l = loads i f in
    let n = format_next i l.1.0 (load-holds i l.1.0 l.1.1) in
    ap (λ (u : Tables). tree_of u (formatted i)) (same_ok t n.0 (sym e ∙ holds-load (formatted i) n.0 n.1.holds)) ∙ n.2 (formatted i)
