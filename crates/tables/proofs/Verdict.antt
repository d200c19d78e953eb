-- The rules of soundness in the order in which the code tests them.
use Rattle.std.proofs.Common.{◌≡◌, ℕ, Bool, true, false, ◌&&◌, List, ◌++◌, Option, Some, None, sym, refl, ap, ◌∙◌}
use Rattle.std.specs.Option.{MatchOption}
use Rattle.model.specs.Tables.{Tables, all, marks_right, proper_entry, unshared, sound_by}
use Rattle.tables.specs.declared.claims.Claims.{Claims}
use Rattle.tables.specs.Rules.{alive_by, Claimed, marks_due, rows_sound, rooted, entries_sound}
use Rattle.tables.proofs.Due.{due_right}

turned : (m p k u w : Bool) → (w && (m && (p && k && u))) ≡ (m && p && k && u && w)
turned true true true true true = refl
turned true true true true false = refl
turned true true true false true = refl
turned true true true false false = refl
turned true true false u true = refl
turned true true false u false = refl
turned true false k u true = refl
turned true false k u false = refl
turned false p k u true = refl
turned false p k u false = refl

pub rules_in_turn : (lives : ℕ → Bool) (t : Tables) → (rows_sound lives t && (marks_right lives t && entries_sound t)) ≡ sound_by lives t
rules_in_turn lives t =
    turned (marks_right lives t) (all (proper_entry t.dirs) t.dirs && all (proper_entry t.dirs) t.files) (rooted t) (unshared (t.dirs ++ t.files)) (rows_sound lives t)

-- r is false where a row is refused, and else tells whether marks and entries are right
pub judged : (dead : List Bool) (t : Tables) (o : Option Claims) (r : Bool) → MatchOption o (r ≡ false) (λ x. r ≡ (marks_due x.dead.now x.claimed t && entries_sound t)) → MatchOption o (rows_sound (alive_by dead) t ≡ false) (λ x. (rows_sound (alive_by dead) t ≡ true) × (x.dead.now ≡ dead) × Claimed t x.claimed) → r ≡ sound_by (alive_by dead) t
judged dead t None r p q =
    let lives = alive_by dead in
    p ∙ ap (λ b. b && (marks_right lives t && entries_sound t)) (sym q) ∙ rules_in_turn lives t
judged dead t (Some x) r p q =
    let lives = alive_by dead in
    p
    ∙ ap (λ (d : List Bool). marks_due d x.claimed t && entries_sound t) q.1
    ∙ ap (λ m. m && entries_sound t) (due_right dead x.claimed t q.2)
    ∙ ap (λ b. b && (marks_right lives t && entries_sound t)) (sym q.0)
    ∙ rules_in_turn lives t
