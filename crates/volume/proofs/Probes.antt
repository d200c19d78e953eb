-- What reading the table sectors and probing the data sectors gives.
use Rattle.std.proofs.Common.{◌≡◌, ℕ, ◌+◌, ◌<◌, ◌≤◌, Bool, true, false, not, eqb, List, length, get_or, set, is_err, Ok, Err, Result, sym, refl, ap, ◌∙◌, arith}
use Rattle.std.proofs.lemmas.List.{get_or-set_same, get_or-set_other}
use Rattle.std.proofs.lemmas.Bool.{eqb-true, eqb-false}
use Rattle.model.specs.Image.{Image, look, is_ok, done_or_fault, access}
use Rattle.model.specs.declared.types.Fault.{Fault}
use Rattle.model.specs.Tables.{Tables, tables, load, alive}
use Rattle.model.proofs.Tables.Loads.{holds-load}
use Rattle.model.proofs.Tables.Rules.{data_range}
use Rattle.volume.specs.Blank.{Tells}

-- four sectors that were read are the tables that the image holds
pub loads : (i : Image) (m d f r : List ℕ) (t : Tables) → look i 0x100 ≡ Ok m → look i 0x101 ≡ Ok d → look i 0x102 ≡ Ok f → look i 0x103 ≡ Ok r → t ≡ tables m d f r → load i ≡ Ok t
loads i m d f r t a b c e h = holds-load i (tables m d f r) (record { map_at = a; dirs-at = (d, b, refl); files-at = (f, c, refl); rows_at = (r, e, refl) }) ∙ ap Ok (sym h)

-- a read that is refused tells that the sector is dead
refused : (l : Result (List ℕ) Fault) → is_err (done_or_fault l) ≡ not (is_ok l)
refused (Ok b) = refl
refused (Err f) = refl

pub probe : (i : Image) (s : ℕ) → is_err (access i s) ≡ not (alive i s)
probe i s = refused (look i s)

-- the array tells of the data sectors below n
abbrev pub Told : List Bool → Image → ℕ → Type 0
Told dead i n = (k : ℕ) → 0x0b ≤ k → k < n → get_or dead k true ≡ not (alive i k)

pub told_none : (dead : List Bool) (i : Image) → Told dead i 0x0b
told_none dead i k a b = absurd (omega arith)

pub told_more : (dead : List Bool) (i : Image) (n : ℕ) (b : Bool) → n < length dead → Told dead i n → b ≡ not (alive i n) → Told (set dead n b) i (n + 1)
told_more dead i n b l told e k lo hi = go (eqb k n) refl
  where
    go : (c : Bool) → eqb k n ≡ c → get_or (set dead n b) k true ≡ not (alive i k)
    go true q = let same = eqb-true k n q in ap (λ (x : ℕ). get_or (set dead n b) x true) same ∙ get_or-set_same dead n b true l ∙ e ∙ ap (λ (x : ℕ). not (alive i x)) (sym same)
    go false q = let ne = eqb-false k n q in get_or-set_other dead n k b true ne ∙ told k lo (omega (arith, ne))

pub told-all : (dead : List Bool) (i : Image) (n : ℕ) → 256 ≤ n → Told dead i n → Tells dead i
told-all dead i n l told s d = let r = data_range s d in let q = r.1 in told s r.0 (omega arith)
