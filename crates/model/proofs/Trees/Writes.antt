-- What write does to the tree.
use Rattle.std.proofs.Common.{◌≡◌, ℕ, ◌-◌, ◌<◌, ◌≤◌, true, false, List, [], ◌∷◌, ◌++◌, length, get_or, set, replicate, Some, None, sym, refl, ap, ◌∙◌, ap₂, arith}
use Rattle.std.proofs.lemmas.List.{get_or-set_other, get_or-set_same, length-set}
use Rattle.model.specs.Image.{Image, look, Write, writes}
use Rattle.model.specs.Refusals.{entries, lost, misspelt, sectors, size, start, write, picked}
use Rattle.model.specs.Names.{names, spelt, Path}
use Rattle.model.specs.Tables.{Entry, Tables, no_entry, live, used, member}
use Rattle.model.specs.Tree.{is_some, added_at}
use Rattle.model.specs.History.{whole as whole_path, whole_sectors, change}
use Rattle.model.specs.Volume.{climb, item_path, body, file_items, tree_of, checks, starts, leads, free_entry, room_for, or_zero, new_entry, given, written, tables_after, data_writes, map_write, files_write, rows_write, sector_writes}
use Rattle.model.specs.Sound.{Shaped, Sound}
use Rattle.model.proofs.Common.Tests.{some_out}
use Rattle.model.proofs.Store.Bodies.{data_off, data_body}
use Rattle.model.proofs.Store.Writes.{look_off, Past, past_off}
use Rattle.model.proofs.Tables.Free.{given-spare, given-distinct, given-length, row_elsewhere}
use Rattle.model.proofs.Tables.Places.{used-padded}
use Rattle.model.proofs.Tables.Walks.{live_at, free-at, Fresh, fresh-entry}
use Rattle.model.proofs.Trees.Items.{file_item, unused-files, from_start}
use Rattle.model.proofs.Trees.Keeps.{rows_same}
use Rattle.model.proofs.Trees.Slots.{same_tree, it_same, it_there, files-put}
use Rattle.model.proofs.Calls.Checks.{pass_not}

module _ (i : Image) (t : Tables) (shaped : Shaped t) (s : Sound i t) where
  module _ (m : ℕ) (free : free_entry t.files ≡ Some m) (e : Entry) (p : Path) (f : Fresh t.dirs e p) (w : List ℕ) (sized : whole_sectors w ≡ true) (room : room_for t w ≡ true) (ws : List Write) (past : Past ws) where
    abbrev image : Image
    image = (writes (data_writes (given t w) w ++ ws) i).image

    abbrev line : List ℕ
    line = given t w ++ replicate (16 - length (given t w)) 0

    filled : body image (used line) ≡ w
    filled =
        ap (body image) (used-padded (16 - length (given t w)) (given t w) (λ x h. let a = (given-spare i t shaped s w x h).least in omega arith))
        ∙ data_body (given t w) i w ws (given-distinct i t shaped s w) (λ x h. let a = given-spare i t shaped s w x h in (a.most, a.alive)) past (given-length i t shaped s w sized room)

    elsewhere : (r : ℕ) → r ≤ 255 → member r (given t w) ≡ false → look image r ≡ look i r
    elsewhere r l h = look_off (data_writes (given t w) w ++ ws) i r (data_off (given t w) w ws r h (past_off ws r l past))

    files-written : file_items t.dirs image (set t.files m e) (set t.rows m line) ≡ set (file_items t.dirs i t.files t.rows) m (Some (record { path = p; bytes = w }))
    files-written =
        let a = length-set t.files m e in
        let b = length-set t.rows m line in
        let c = rows_same i t shaped s in
        let n = (free-at t.files m free).0 in
        let o : m < length t.rows = omega arith in
        files-put t.dirs t.dirs i image t.files (set t.files m e) t.rows (set t.rows m line) a c (a ∙ c ∙ sym b) m (Some (record { path = p; bytes = w })) n
        (ap₂ (file_item t.dirs image) (get_or-set_same t.files m e no_entry n) (get_or-set_same t.rows m line [] o)
        ∙ it_there (live e) (item_path t.dirs e) p (body image (used line)) w f.lives f.path filled)
        (λ k ne l. ap₂ (file_item t.dirs image) (get_or-set_other t.files m k e no_entry ne) (get_or-set_other t.rows m k line [] ne)
        ∙ it_same (live (get_or t.files k no_entry)) (item_path t.dirs (get_or t.files k no_entry)) (item_path t.dirs (get_or t.files k no_entry)) (body image (used (get_or t.rows k []))) (body i (used (get_or t.rows k []))) (λ v. refl)
        (λ v. row_elsewhere i t shaped s image (given t w) (given-spare i t shaped s w) elsewhere k (live_at t.files shaped.files_many k l v)))

  pub write_follows : (d : ℕ) (p w : List ℕ) → picked (checks t i (write d p w)) ≡ None → tree_of (tables_after t (write d p w)) (writes (sector_writes t (write d p w) (tables_after t (write d p w))) i).image ≡ change (tree_of t i) (write d p w)
  write_follows d p w acc =
      let a = pass_not (spelt p) misspelt _ acc in
      let b = pass_not (starts t d) start _ a.1 in
      let g = pass_not (whole_sectors w) size _ b.1 in
      let r = pass_not (room_for t w) sectors _ g.1 in
      let c = pass_not (is_some (free_entry t.files)) entries _ r.1 in
      let l = pass_not (leads t d p) lost _ c.1 in
      let z = from_start i t shaped s d p b.0 in
      let f = fresh-entry i t shaped s d p a.0 z.0 l.0 in
      let m = some_out (free_entry t.files) c.0 in
      let q = unused-files i t shaped s ∙ m.1 in
      let u = written t d p w in
      let ws = rows_write u ∷ map_write u ∷ files_write u ∷ [] in
      let j = (writes (data_writes (given t w) w ++ ws) i).image in
      let line = given t w ++ replicate (16 - length (given t w)) 0 in
      same_tree refl
      (ap (λ n. file_items t.dirs j (set t.files n (new_entry t d p)) (set t.rows n line)) (ap or_zero m.1)
      ∙ files-written m.0 m.1 (new_entry t d p) (climb t.dirs 32 d ++ names p) f w g.0 r.0 ws (omega arith, (omega arith, (omega arith, tt)))
      ∙ ap (λ (x : Path). set (tree_of t i).files m.0 (Some (record { path = x; bytes = w }))) (sym z.1)
      ∙ ap (λ o. added_at o (tree_of t i).files (record { path = whole_path (tree_of t i) d p; bytes = w })) (sym q))
