-- What the calls that only look answer.
use Rattle.std.proofs.Common.{◌≡◌, ℕ, List, Some, None, Ok, Err, Option, Result, sym, ap, ◌∙◌, subst}
use Rattle.std.specs.Option.{option_map}
use Rattle.model.specs.Answers.{answer, refused_or_met, find_answer, item_or_root, next_answer, least_after, listing}
use Rattle.model.specs.Image.{Image}
use Rattle.model.specs.Refusals.{find, next}
use Rattle.model.specs.Tables.{Tables}
use Rattle.model.specs.Volume.{checks, named, number_of}
use Rattle.model.specs.declared.types.Kind.{Kind}
use Rattle.model.specs.declared.types.Refusal.{Refusal}
use Rattle.tables.specs.Plans.{Passes, listed_view}
use Rattle.tables.specs.declared.outcomes.Listed.{Listed}
use Rattle.volume.specs.Views.{listed_answer}
use Rattle.volume.proofs.Admitting.{on}

pub found : (i : Image) (o : Option Tables) (t : Tables) → o ≡ Some t → (d : ℕ) (p : List ℕ) (r : Result (Kind × ℕ) Refusal) → Passes (checks t i (find d p)) (λ x. named t d p ≡ Some x) r → r ≡ find_answer (on o i) d p
found i o t is d p r h = subst (λ (x : Option Tables). r ≡ find_answer (on x i) d p) (sym is) (go r h)
  where
    go : (r : Result (Kind × ℕ) Refusal) → Passes (checks t i (find d p)) (λ x. named t d p ≡ Some x) r → r ≡ find_answer (on (Some t) i) d p
    go (Ok x) h = ap Ok (ap item_or_root (sym h.1)) ∙ sym (ap (λ (y : Option Refusal). answer (refused_or_met y None) (item_or_root (named t d p))) h.0)
    go (Err e) h = sym (ap (λ (y : Option Refusal). answer (refused_or_met y None) (item_or_root (named t d p))) h)

pub listed : (i : Image) (o : Option Tables) (t : Tables) → o ≡ Some t → (d : ℕ) (p a : List ℕ) (r : Result (Option Listed) Refusal) → Passes (checks t i (next d p a)) (λ x. option_map listed_view x ≡ least_after a (listing t (number_of (named t d p)))) r → listed_answer r ≡ next_answer (on o i) d p a
listed i o t is d p a r h = subst (λ (x : Option Tables). listed_answer r ≡ next_answer (on x i) d p a) (sym is) (go r h)
  where
    go : (r : Result (Option Listed) Refusal) → Passes (checks t i (next d p a)) (λ x. option_map listed_view x ≡ least_after a (listing t (number_of (named t d p)))) r → listed_answer r ≡ next_answer (on (Some t) i) d p a
    go (Ok x) h = ap Ok h.1 ∙ sym (ap (λ (y : Option Refusal). answer (refused_or_met y None) (least_after a (listing t (number_of (named t d p))))) h.0)
    go (Err e) h = sym (ap (λ (y : Option Refusal). answer (refused_or_met y None) (least_after a (listing t (number_of (named t d p))))) h)
