-- What tells two items apart, and what stays of an item while other entries change.
use Rattle.std.proofs.Common.{◌≡◌, ℕ, ◌≤◌, Bool, true, false, cond, List, [], length, get_or, Some, None, Option, sym, refl, ap, ◌∙◌}
use Rattle.std.proofs.lemmas.List.{same_from_push}
use Rattle.model.specs.Image.{Image, look}
use Rattle.model.specs.Names.{Path, padded}
use Rattle.model.specs.Tables.{Entry, Tables, no_entry, trimmed, used}
use Rattle.model.specs.Tree.{Item, unless_gone, carried}
use Rattle.model.specs.Volume.{climb, item_path, body}
use Rattle.model.specs.Sound.{Shaped, Live, Proper, Sound}
use Rattle.model.proofs.Naming.Same.{shift}
use Rattle.model.proofs.Tables.Climbs.{one_place}
use Rattle.model.proofs.Tables.Free.{row_same}
use Rattle.model.proofs.Trees.Slots.{it, it_same, carried_it}

pub gone_not : (g : Path → Bool) (b : Bool) (p : Path) (c : List ℕ) → (b ≡ true → g p ≡ false) → unless_gone g (it b p c) ≡ it b p c
gone_not g true p c h = ap (λ x. cond {A = Option Item} x None (Some (record { path = p; bytes = c }))) (h refl)
gone_not g false p c h = refl

pub gone_so : (g : Path → Bool) (b : Bool) (p : Path) (c : List ℕ) → (b ≡ true → g p ≡ true) → unless_gone g (it b p c) ≡ None
gone_so g true p c h = ap (λ x. cond {A = Option Item} x None (Some (record { path = p; bytes = c }))) (h refl)
gone_so g false p c h = refl

pub carried-not : (p q : Path) (b : Bool) (r : Path) (c : List ℕ) → (b ≡ true → shift p q r ≡ r) → carried p q (it b r c) ≡ it b r c
carried-not p q b r c h = carried_it p q b r c ∙ it_same b (shift p q r) r c c h (λ z. refl)

module _ (i : Image) (t : Tables) (shaped : Shaped t) (s : Sound i t) where
  entry_tells : (e f : Entry) → Proper t.dirs e → Proper t.dirs f → item_path t.dirs e ≡ item_path t.dirs f → (e.parent ≡ f.parent) × (e.name ≡ f.name)
  entry_tells e f p q h =
      let z = same_from_push (climb t.dirs 32 e.parent) (climb t.dirs 32 f.parent) (trimmed e.name) (trimmed f.name) h in
      (one_place i t s e.parent f.parent p.held q.held z.0, p.filled ∙ ap padded z.1 ∙ sym q.filled)

  pub dirs-one : (d e : ℕ) → Live t.dirs d → Live t.dirs e → item_path t.dirs (get_or t.dirs d no_entry) ≡ item_path t.dirs (get_or t.dirs e no_entry) → d ≡ e
  dirs-one d e l m h = let z = entry_tells (get_or t.dirs d no_entry) (get_or t.dirs e no_entry) (s.dirs_proper d l) (s.dirs_proper e m) h in s.dirs_apart d e l m z.0 z.1

  pub files-one : (f g : ℕ) → Live t.files f → Live t.files g → item_path t.dirs (get_or t.files f no_entry) ≡ item_path t.dirs (get_or t.files g no_entry) → f ≡ g
  files-one d e l m h = let z = entry_tells (get_or t.files d no_entry) (get_or t.files e no_entry) (s.files_proper d l) (s.files_proper e m) h in s.files_apart d e l m z.0 z.1

  pub kinds_two : (d f : ℕ) → Live t.dirs d → Live t.files f → item_path t.dirs (get_or t.dirs d no_entry) ≡ item_path t.dirs (get_or t.files f no_entry) → ⊥
  kinds_two d f l m h = let z = entry_tells (get_or t.dirs d no_entry) (get_or t.files f no_entry) (s.dirs_proper d l) (s.files_proper f m) h in s.kinds_apart d f l m z.0 z.1

  pub rows_same : length t.files ≡ length t.rows
  rows_same = shaped.files_many ∙ sym shaped.rows_many

  pub body_kept : (j : Image) → ((r : ℕ) → r ≤ 255 → look j r ≡ look i r) → (k : ℕ) → Live t.files k → body j (used (get_or t.rows k [])) ≡ body i (used (get_or t.rows k []))
  body_kept j h k l = row_same i j (get_or t.rows k []) (s.rows_proper k l) h
