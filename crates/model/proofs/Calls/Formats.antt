-- What format leaves: tables with no item, and a bare tree.
use Rattle.std.proofs.Common.{◌≡◌, ℕ, zero, suc, ◌+◌, ◌-◌, ◌*◌, ◌<◌, ◌≤◌, Bool, true, false, cond, ltb, List, [], ◌∷◌, map, length, get_or, replicate, Some, None, Ok, Err, Option, Result, sym, refl, ap, ◌∙◌, subst, ap₂, arith}
use Rattle.std.proofs.lemmas.Option.{none-some}
use Rattle.std.proofs.lemmas.List.{drop-replicate, get_or-replicate, length-replicate, take-replicate}
use Rattle.std.proofs.lemmas.Bool.{both_ways, le-ltb, lt-ltb, ltb-false}
use Rattle.model.specs.Image.{Fault, Image, look, is_ok, Write}
use Rattle.model.specs.Refusals.{Refusal, dead, small}
use Rattle.model.specs.Tables.{Entry, Tables, no_entry, entry, live, parts, entries, load, data_sector}
use Rattle.model.specs.Tree.{Numbered, bare}
use Rattle.model.specs.Volume.{dir_items, file_items, tree_of}
use Rattle.model.specs.Sound.{Shaped}
use Rattle.model.specs.Law.{from_to, blank_mark, format_refusal, format_writes}
use Rattle.model.proofs.Common.Lists.{length_from, get_or_from, map-replicate}
use Rattle.model.proofs.Store.Writes.{Able}
use Rattle.model.proofs.Tables.Loads.{Holds, holds_after, Next}
use Rattle.model.proofs.Tables.Rules.{data_range}
use Rattle.model.proofs.Calls.Entries.{at, Treed}
use Rattle.model.proofs.Calls.Rows.{Rowed, sound-from}

-- an accepted format finds room and four live sectors
pub loads : (i : Image) → format_refusal i ≡ None → (260 ≤ length i) × ((t : Tables) × (load i ≡ Ok t))
loads i h = go (ltb (length i) 260) refl (load i) refl h
  where
    go : (b : Bool) → ltb (length i) 260 ≡ b → (l : Result Tables Fault) → load i ≡ l → cond b (Some small) (elim l as (λ _. Option Refusal) [ Err f ↦ Some (dead f) | Ok t ↦ None ]) ≡ None → (260 ≤ length i) × ((t : Tables) × (load i ≡ Ok t))
    go true p l q k = absurd (none-some small (sym k))
    go false p (Err f) q k = absurd (none-some (dead f) (sym k))
    go false p (Ok t) q k = (ltb-false (length i) 260 p, (t, q))

abbrev zero_row : List ℕ
zero_row = replicate 16 0

parts_zeros : (k n : ℕ) → n ≡ k * 16 → parts k (replicate n 0) ≡ replicate k zero_row
parts_zeros zero n e = refl
parts_zeros (suc k) n e =
    let l : 16 ≤ n = omega arith in
    let m : n - 16 ≡ k * 16 = omega arith in
    ap₂ ◌∷◌ (take-replicate 16 n 0 l) (ap (parts k) (drop-replicate 16 n 0) ∙ parts_zeros k (n - 16) m)

abbrev blank : Entry
blank = record { parent = 0; name = replicate 15 0 }

entries_zeros : (k n : ℕ) → n ≡ k * 16 → map entry (parts k (replicate n 0)) ≡ replicate k blank
entries_zeros k n e = ap (map entry) (parts_zeros k n e) ∙ map-replicate entry k zero_row

all-dead : (n k : ℕ) → live (at (replicate n blank) k) ≡ false
all-dead zero k = refl
all-dead (suc n) zero = refl
all-dead (suc n) (suc k) = all-dead n k

no_dirs : (ds : List Entry) (n : ℕ) → dir_items ds (replicate n blank) ≡ replicate n None
no_dirs ds zero = refl
no_dirs ds (suc n) = ap (λ (xs : Numbered). None ∷ xs) (no_dirs ds n)

no_files : (ds : List Entry) (i : Image) (n : ℕ) → file_items ds i (replicate n blank) (replicate n zero_row) ≡ replicate n None
no_files ds i zero = refl
no_files ds i (suc n) = ap (λ (xs : Numbered). None ∷ xs) (no_files ds i n)

module _ (i : Image) (t : Tables) (holds : Holds i t) (m z : List ℕ) (m_long : length m ≡ 512) (z_long : length z ≡ 512)
    (m_is : (s : ℕ) → s < 512 → get_or m s 1 ≡ blank_mark i s)
    (n : ℕ) (n-is : n ≡ 32) (z_entries : entries z ≡ replicate n blank) (z_rows : parts 32 z ≡ replicate n zero_row) where
  abbrev new : Tables
  new = record { marks = m; dirs = replicate n blank; files = replicate n blank; rows = replicate n zero_row }

  at-blank : (k : ℕ) → k < 32 → at (replicate n blank) k ≡ blank
  at-blank k l = get_or-replicate n k blank no_entry (subst (λ x. k < x) (sym n-is) l)

  new_shaped : Shaped new
  new_shaped =
      record {
        marks_long = m_long;
        dirs_many = length-replicate n blank ∙ n-is;
        files_many = length-replicate n blank ∙ n-is;
        rows_many = length-replicate n zero_row ∙ n-is;
        dirs_named = λ d l. ap (λ x. length x.name) (at-blank d l);
        files_named = λ d l. ap (λ x. length x.name) (at-blank d l);
        rows_long = λ f l. ap length (get_or-replicate n f zero_row [] (subst (λ x. f < x) (sym n-is) l));
      }

  none : (k : ℕ) → live (at (replicate n blank) k) ≡ true → ⊥
  none k h = both_ways (live (at (replicate n blank) k)) (all-dead n k) h

  new_tree : Treed (replicate n blank) (replicate n blank)
  new_tree =
      record {
        dirs_proper = λ d l. absurd (none d l.1);
        files_proper = λ d l. absurd (none d l.1);
        rooted = λ d l. absurd (none d l.1);
        dirs_apart = λ d e l k p q. absurd (none d l.1);
        files_apart = λ d e l k p q. absurd (none d l.1);
        kinds_apart = λ d e l k p q. none d l.1;
      }

  mark : (s : ℕ) (a b c : Bool) → ltb s 0x0b ≡ a → ltb 0xff s ≡ b → is_ok (look i s) ≡ c → blank_mark i s ≡ cond a 0xff (cond b 0 (cond c 0 0xfe))
  mark s a b c p q r = ap (λ x. cond x 0xff (cond (ltb 0xff s) 0 (cond (is_ok (look i s)) 0 0xfe))) p ∙ (ap (λ x. cond a 0xff (cond x 0 (cond (is_ok (look i s)) 0 0xfe))) q ∙ ap (λ x. cond a 0xff (cond b 0 (cond x 0 0xfe))) r)

  data_mark : (s : ℕ) (c : Bool) → data_sector s ≡ true → is_ok (look i s) ≡ c → get_or m s 1 ≡ cond c 0 0xfe
  data_mark s c d o = let u = data_range s d in m_is s (in_map s u.1) ∙ mark s false false c (le-ltb s 0x0b u.0) (le-ltb 0xff s u.1) o
    where
      in_map : (s : ℕ) → s ≤ 0xff → s < 512
      in_map s l = omega arith

  new-rows : Rowed i m (replicate n blank) (replicate n zero_row)
  new-rows =
      record {
        reserved = λ s l. m_is s (low s l) ∙ mark s true (ltb 0xff s) (is_ok (look i s)) (lt-ltb s 0x0b l) refl refl;
        beyond = λ s l k. m_is s k ∙ mark s false true (is_ok (look i s)) (le-ltb s 0x0b (high s l)) (lt-ltb 0xff s l) refl;
        dead_marked = λ s d o. data_mark s false d o;
        used_marked = λ s f j d o x. absurd (none f x.1);
        free_marked = λ s d o x. data_mark s true d o;
        rows_proper = λ f l. absurd (none f l.1);
        places_apart = λ f j g k s x y. absurd (none f x.1);
      }
    where
      low : (s : ℕ) → s < 0x0b → s < 512
      low s l = omega arith

      high : (s : ℕ) → 0xff < s → 0x0b ≤ s
      high s l = omega arith

  abbrev ws : List Write
  ws = record { at = 0x100; new = m } ∷ record { at = 0x101; new = z } ∷ record { at = 0x102; new = z } ∷ record { at = 0x103; new = z } ∷ []

  ok : Able i ws
  ok = (ap is_ok holds.map_at, m_long, (ap is_ok holds.dirs-at.1, z_long, (ap is_ok holds.files-at.1, z_long, (ap is_ok holds.rows_at.1, z_long, tt))))

  new-next : Next i new ws
  new-next = record { able = ok; holds = holds_after i t new ws ok holds z z z refl refl z_entries refl z_entries refl z_rows; shaped = new_shaped; facts = sound-from i new new_shaped new_tree new-rows }

  new-bare : (j : Image) → tree_of new j ≡ record { dirs = replicate n None; files = replicate n None }
  new-bare j = λ k. record { dirs = no_dirs (replicate n blank) n k; files = no_files (replicate n blank) j n k }

pub format_next : (i : Image) (t : Tables) → Holds i t → (u : Tables) × Next i u (format_writes i) × ((j : Image) → tree_of u j ≡ bare)
format_next i t holds = (new i t holds (from_to 0 512 (blank_mark i)) (replicate 512 0) m_long z_long m_is 32 refl z_entries z_rows, new-next i t holds (from_to 0 512 (blank_mark i)) (replicate 512 0) m_long z_long m_is 32 refl z_entries z_rows, new-bare i t holds (from_to 0 512 (blank_mark i)) (replicate 512 0) m_long z_long m_is 32 refl z_entries z_rows)
  where
    m_long : length (from_to 0 512 (blank_mark i)) ≡ 512
    m_long = length_from 0 512 (blank_mark i)

    z_long : length (replicate {A = ℕ} 512 0) ≡ 512
    z_long = length-replicate {A = ℕ} 512 0

    m_is : (s : ℕ) → s < 512 → get_or (from_to 0 512 (blank_mark i)) s 1 ≡ blank_mark i s
    m_is s l = get_or_from 0 512 (blank_mark i) s s 1 l (zero_plus s)
      where
        zero_plus : (s : ℕ) → s ≡ 0 + s
        zero_plus s = omega arith

    z_entries : entries (replicate 512 0) ≡ replicate 32 blank
    z_entries = entries_zeros 32 512 refl

    z_rows : parts 32 (replicate 512 0) ≡ replicate 32 zero_row
    z_rows = parts_zeros 32 512 refl
