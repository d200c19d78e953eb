-- The writes of format meet no fault, and leave what the definition says.
use Rattle.std.proofs.Common.{◌≡◌, ℕ, true, List, [], ◌∷◌, Some, None, Ok, Err, Option, Result, sym, ap, ◌∙◌, subst}
use Rattle.model.specs.Image.{Image, whole, look, is_ok, access, done_or_fault, put, Write, writes, from_to}
use Rattle.model.specs.declared.types.Fault.{Fault}
use Rattle.model.specs.declared.types.Refusal.{Refusal}
use Rattle.model.specs.Tables.{Tables, load}
use Rattle.model.specs.Volume.{blank_mark, blank_sector, format_refusal, formatted, after_format}
use Rattle.model.specs.Answers.{answer, format_answer}
use Rattle.model.proofs.Calls.{format_ready}
use Rattle.model.proofs.Trees.{format_bare}
use Rattle.model.proofs.Store.Writes.{put-alive, writes-step}
use Rattle.model.proofs.Tables.Loads.{load-holds}
use Rattle.volume.specs.Blank.{Bare}

-- an access that is refused is of a sector that is not alive
refuted : (l : Result (List ℕ) Fault) (r : Result (Unit {0}) Fault) (f : Fault) → is_ok l ≡ true → r ≡ done_or_fault l → r ≡ Err f → ⊥
refuted (Ok b) r f a e h = cc
refuted (Err g) r f a e h = cc

pub never : {A : Type 0} (i j : Image) (s : ℕ) (r : Result (Unit {0}) Fault) (f : Fault) → j ≡ i → is_ok (look i s) ≡ true → r ≡ access j s → r ≡ Err f → A
never i j s r f same alive e h = absurd (refuted (look i s) r f alive (e ∙ ap (λ (x : Image). access x s) same) h)

pub record Four (i : Image) : Type 0 where
  pub map-alive : is_ok (look i 0x100) ≡ true
  pub dirs-alive : is_ok (look i 0x101) ≡ true
  pub files-alive : is_ok (look i 0x102) ≡ true
  pub rows-alive : is_ok (look i 0x103) ≡ true

pub four : (i : Image) (t : Tables) → load i ≡ Ok t → Four i
four i t e =
    let h = load-holds i t e in
    record { map-alive = ap is_ok h.map_at; dirs-alive = ap is_ok h.dirs-at.1; files-alive = ap is_ok h.files-at.1; rows-alive = ap is_ok h.rows_at.1 }

-- a write to a live sector leaves all four as they were
pub four_put : (i : Image) (s : ℕ) (b : List ℕ) → is_ok (look i s) ≡ true → Four i → Four (put i s b)
four_put i s b a f =
    record { map-alive = put-alive i s 0x100 b a ∙ f.map-alive; dirs-alive = put-alive i s 0x101 b a ∙ f.dirs-alive; files-alive = put-alive i s 0x102 b a ∙ f.files-alive; rows-alive = put-alive i s 0x103 b a ∙ f.rows-alive }

abbrev pub z : List ℕ
z = blank_sector

abbrev write-at : ℕ → List ℕ → Write
write-at s b = record { at = s; new = b }

pub formatted_is : (i : Image) (m : List ℕ) → Four i → m ≡ from_to 0 512 (blank_mark i) → put (put (put (put i 0x100 m) 0x101 z) 0x102 z) 0x103 z ≡ formatted i
formatted_is i m f e =
    let i₁ = put i 0x100 m in
    let f₁ = four_put i 0x100 m f.map-alive f in
    let i₂ = put i₁ 0x101 z in
    let f₂ = four_put i₁ 0x101 z f₁.dirs-alive f₁ in
    let i₃ = put i₂ 0x102 z in
    let f₃ = four_put i₂ 0x102 z f₂.files-alive f₂ in
    let steps = writes-step (write-at 0x100 m) (write-at 0x101 z ∷ write-at 0x102 z ∷ write-at 0x103 z ∷ []) i f.map-alive ∙ writes-step (write-at 0x101 z) (write-at 0x102 z ∷ write-at 0x103 z ∷ []) i₁ f₁.dirs-alive ∙ writes-step (write-at 0x102 z) (write-at 0x103 z ∷ []) i₂ f₂.files-alive ∙ writes-step (write-at 0x103 z) [] i₃ f₃.rows-alive in
    sym (ap (λ w. w.image) steps) ∙ ap (λ (x : List ℕ). (writes (write-at 0x100 x ∷ write-at 0x101 z ∷ write-at 0x102 z ∷ write-at 0x103 z ∷ []) i).image) e

pub after_is : (i j : Image) → format_refusal i ≡ None → j ≡ formatted i → j ≡ after_format i
after_is i j h e = e ∙ sym (ap (λ (o : Option Refusal). elim o as (λ _. Image) [ Some r ↦ i | None ↦ formatted i ]) h)

pub answer_is : (i : Image) → format_refusal i ≡ None → Ok tt ≡ format_answer i
answer_is i h = sym (ap (λ (o : Option Refusal). answer o tt) h)

-- what an accepted format leaves
pub bare_is : (i j : Image) → whole i ≡ true → format_refusal i ≡ None → j ≡ formatted i → Bare j
bare_is i j w f e =
    let r = format_ready i w f in
    subst Bare (sym e) (record { tables = r.0; held = r.1.loaded; sound = r.1.facts; empty = format_bare i w f r.0 r.1.loaded })

pub refused_leaves : (j : Image) (e : Refusal) (r : Result (Unit {0}) Refusal) → r ≡ Err e → r ≡ Ok tt → Bare j
refused_leaves j e r q h = absurd cc

pub answer_refused : (i : Image) (e : Refusal) (r : Result (Unit {0}) Refusal) → r ≡ Err e → format_refusal i ≡ Some e → r ≡ format_answer i
answer_refused i e r q h = q ∙ sym (ap (λ (o : Option Refusal). answer o tt) h)

pub left_refused : (i j : Image) (e : Refusal) → j ≡ i → format_refusal i ≡ Some e → j ≡ after_format i
left_refused i j e q h = q ∙ sym (ap (λ (o : Option Refusal). elim o as (λ _. Image) [ Some r ↦ i | None ↦ formatted i ]) h)
