-- The checks of a call agree with those of the tree, and an accepted call leaves what it should.
pub mod Agree
pub mod Checks
pub mod Cuts
pub mod Entries
pub mod Formats
pub mod Makes
pub mod Rows
pub mod Writes
use Rattle.std.proofs.Common.{◌≡◌, ℕ, ◌≤◌, true, List, length, get_or, None, sym, ◌∙◌, subst}
use Rattle.model.specs.Image.{Image, look, is_ok, Write, writes}
use Rattle.model.specs.Refusals.{Call, closing, opening, find, mkdir, prune, unlink, read, write, move, next, book, picked}
use Rattle.model.specs.Tables.{Tables}
use Rattle.model.specs.History.{checks as tree_checks}
use Rattle.model.specs.Volume.{tree_of, checks, tables_after, sector_writes}
use Rattle.model.specs.Sound.{Shaped, ProperRow, Sound}
use Rattle.model.specs.Law.{formatted, whole, format_refusal, format_writes, room}
use Rattle.model.proofs.Ready.{Ready}
use Rattle.model.proofs.Common.Counts.{count_alike}
use Rattle.model.proofs.Store.Writes.{Like, went}
use Rattle.model.proofs.Tables.Loads.{Holds, load-holds, holds-load, Next}
use Rattle.model.proofs.Trees.Counts.{room_agrees}
use Rattle.model.proofs.Calls.Agree.{agree}
use Rattle.model.proofs.Calls.Cuts.{unlink_next, prune_next}
use Rattle.model.proofs.Calls.Formats.{loads, format_next}
use Rattle.model.proofs.Calls.Makes.{mkdir_next, move-next}
use Rattle.model.proofs.Calls.Writes.{write-next}

pub refusals_agree : (i : Image) (t : Tables) → Ready i t → (c : Call) → picked (checks t i c) ≡ picked (tree_checks (room i) (tree_of t i) c)
refusals_agree i t r c = agree i t r.sectors r.shaped r.facts (room i) (room_agrees i t r.sectors r.shaped r.facts) c

-- what an accepted call leaves
pub record Left (i : Image) (t : Tables) (c : Call) : Type 0 where
  pub unbroken : (writes (sector_writes t c (tables_after t c)) i).fault ≡ None
  pub ready : Ready (writes (sector_writes t c (tables_after t c)) i).image (tables_after t c)
  pub like : Like i (writes (sector_writes t c (tables_after t c)) i).image

-- the facts speak of the sectors only by which are dead
row_like : (i j : Image) → Like i j → (r : List ℕ) → ProperRow i r → ProperRow j r
row_like i j l r p = record { some_used = p.some_used; stored = λ k b. ((p.stored k b).0, l.same-alive (get_or r k 0) ∙ (p.stored k b).1); rest = p.rest }

sound_like : (i j : Image) → Like i j → (t : Tables) → Sound i t → Sound j t
sound_like i j l t s =
    record {
      reserved = s.reserved;
      beyond = s.beyond;
      dead_marked = λ x d o. s.dead_marked x d (sym (l.same-alive x) ∙ o);
      used_marked = λ x d o. s.used_marked x d (sym (l.same-alive x) ∙ o);
      free_marked = λ x d o. s.free_marked x d (sym (l.same-alive x) ∙ o);
      dirs_proper = s.dirs_proper;
      files_proper = s.files_proper;
      rooted = s.rooted;
      dirs_apart = s.dirs_apart;
      files_apart = s.files_apart;
      kinds_apart = s.kinds_apart;
      rows_proper = λ f v. row_like i j l _ (s.rows_proper f v);
      places_apart = s.places_apart;
    }

ready-after : (i : Image) (u : Tables) (ws : List Write) → whole i ≡ true → 260 ≤ length i → Next i u ws → Ready (writes ws i).image u
ready-after i u ws sectors long n =
    let w = went ws i n.able in
    record {
      sectors = w.like.kept_whole sectors;
      long = subst (λ m. 260 ≤ m) (sym w.like.same_length) long;
      loaded = holds-load (writes ws i).image u n.holds;
      shaped = n.shaped;
      facts = sound_like i (writes ws i).image w.like u n.facts;
    }

left_by : (i : Image) (t : Tables) (c : Call) → Ready i t → Next i (tables_after t c) (sector_writes t c (tables_after t c)) → Left i t c
left_by i t c r n =
    record {
      unbroken = (went (sector_writes t c (tables_after t c)) i n.able).no_fault;
      ready = ready-after i (tables_after t c) (sector_writes t c (tables_after t c)) r.sectors r.long n;
      like = (went (sector_writes t c (tables_after t c)) i n.able).like;
    }

-- an accepted call needs no more than that the image holds the tables, and that they are sound
pub goes_on : (i : Image) (t : Tables) → Shaped t → Holds i t → Sound i t → (c : Call) → picked (checks t i c) ≡ None → Next i (tables_after t c) (sector_writes t c (tables_after t c))
goes_on i t shaped h s opening accepted = record { able = tt; holds = h; shaped = shaped; facts = s }
goes_on i t shaped h s closing accepted = record { able = tt; holds = h; shaped = shaped; facts = s }
goes_on i t shaped h s (find d p) accepted = record { able = tt; holds = h; shaped = shaped; facts = s }
goes_on i t shaped h s (read d p b) accepted = record { able = tt; holds = h; shaped = shaped; facts = s }
goes_on i t shaped h s (next d p a) accepted = record { able = tt; holds = h; shaped = shaped; facts = s }
goes_on i t shaped h s (book b) accepted = record { able = tt; holds = h; shaped = shaped; facts = s }
goes_on i t shaped h s (mkdir d p) accepted = mkdir_next i t shaped h s d p accepted
goes_on i t shaped h s (unlink d p) accepted = unlink_next i t shaped h s d p accepted
goes_on i t shaped h s (prune d p) accepted = prune_next i t shaped h s d p accepted
goes_on i t shaped h s (write d p w) accepted = write-next i t shaped h s d p w accepted
goes_on i t shaped h s (move d p q) accepted = move-next i t shaped h s d p q accepted

pub stays_ready : (i : Image) (t : Tables) → Ready i t → (c : Call) → picked (checks t i c) ≡ None → Left i t c
stays_ready i t r c accepted = left_by i t c r (goes_on i t r.shaped (load-holds i t r.loaded) r.facts c accepted)

-- an accepted format leaves an image whose tables are ready
pub format_ready : (i : Image) → whole i ≡ true → format_refusal i ≡ None → (t : Tables) × Ready (formatted i) t
format_ready i w f =
    let l = loads i f in
    let n = format_next i l.1.0 (load-holds i l.1.0 l.1.1) in
    (n.0, ready-after i n.0 (format_writes i) w l.0 n.1)

-- no write changes which sectors are dead, so the room stays
room_like : (i j : Image) → Like i j → room j ≡ room i
room_like i j l = count_alike (λ s. is_ok (look j s)) (λ s. is_ok (look i s)) l.same-alive 245 0x0b

pub room-kept : (i : Image) (t : Tables) → Ready i t → (c : Call) → picked (checks t i c) ≡ None → room (writes (sector_writes t c (tables_after t c)) i).image ≡ room i
room-kept i t r c a = room_like i (writes (sector_writes t c (tables_after t c)) i).image (stays_ready i t r c a).like

pub format_room : (i : Image) → format_refusal i ≡ None → room (formatted i) ≡ room i
format_room i f =
    let l = loads i f in
    room_like i (formatted i) (went (format_writes i) i (format_next i l.1.0 (load-holds i l.1.0 l.1.1)).1.able).like
