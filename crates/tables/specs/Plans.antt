-- What a call would do, worked out in memory: refused by the first check that refuses, or the tables after it.
use Rattle.std.specs.Prelude.{◌≡◌, ℕ, Bool, not, List, [], ◌∷◌, Some, None, Option, Result, MatchResult}
use Rattle.model.specs.Image.{Image}
use Rattle.model.specs.Refusals.{Call, Check, check, picked}
use Rattle.model.specs.Names.{spelt}
use Rattle.model.specs.Tables.{Tables as Model}
use Rattle.model.specs.Tree.{is_some}
use Rattle.model.specs.Answers.{Listed as ModelListed, lesser}
use Rattle.model.specs.Volume.{checks, tables_after, starts, leads, named, is_dir, is_file}
use Rattle.model.specs.declared.types.Kind.{Kind}
use Rattle.model.specs.declared.types.Kind.TheVariants.{Directory as directory, File as file}
use Rattle.model.specs.declared.types.Refusal.{Refusal}
use Rattle.model.specs.declared.types.Refusal.TheVariants.{Misspelt as misspelt, Start as start, Lost as lost, Taken as taken}
use Rattle.tables.specs.Views.{view}
use Rattle.tables.specs.declared.consistent.Consistent.{Consistent}
use Rattle.tables.specs.declared.outcomes.Listed.{Listed}

-- r is a value that is as `made` says where none of the checks refuses, and else the first refusal
abbrev pub Passes : {A : Type 0} → List Check → (A → Type 0) → Result A Refusal → Type 0
Passes cs made r = MatchResult r (λ a. (picked cs ≡ None) × made a) (λ e. picked cs ≡ Some e)

-- r refuses as the checks do, or it is a value that is as `made` says; only `book` checks by the image, so any one serves
abbrev pub Decided : {A : Type 0} → Model → Call → (A → Type 0) → Result A Refusal → Type 0
Decided t c made r = (i : Image) → MatchResult r (λ a. (picked (checks t i c) ≡ None) × made a) (λ e. picked (checks t i c) ≡ Some e)

-- the tables are those after the call
abbrev pub After : Model → Call → Consistent → Type 0
After t c after = view after.tables ≡ tables_after t c

-- parts of the lists of checks -----------------------------------------------------------------------------

-- the spelling and the start
abbrev pub begun : Model → ℕ → List ℕ → List Check
begun t d p = check (not (spelt p)) misspelt ∷ check (not (starts t d)) start ∷ []

abbrev pub is_kind : Kind → Option (Kind × ℕ) → Bool
is_kind directory o = is_dir o
is_kind file o = is_file o

-- the spelling, the start, and an item of the wanted kind
abbrev pub there : Kind → Model → ℕ → List ℕ → List Check
there k t d p = check (not (spelt p)) misspelt ∷ check (not (starts t d)) start ∷ check (not (is_kind k (named t d p))) lost ∷ []

-- a way to the last name, and no item of that name
abbrev pub vacant : Model → ℕ → List ℕ → List Check
vacant t d p = check (not (leads t d p)) lost ∷ check (is_some (named t d p)) taken ∷ []

-- an item of a directory, viewed as the model's
abbrev pub listed_view : Listed → ModelListed
listed_view x = record { kind = x.kind; number = x.number; name = x.name.now }

-- the one whose name comes first, if there is any; of two with the same name the second
abbrev pub lesser_of : Option ModelListed → Option ModelListed → Option ModelListed
lesser_of None y = y
lesser_of (Some x) y = Some (lesser x y)
