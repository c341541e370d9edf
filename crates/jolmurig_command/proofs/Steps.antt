-- What options ask for behind the first of them.
use Rattle.std.proofs.Common.{ap, arith, codes, refl, ◌≡◌, suc, ◌≤◌, true, false, ℕ, List, [], ◌∷◌, map, length, Ok}
use Rattle.jolmurig_command.specs.AcceptArguments.{accept_one, accept_options, accept_value, accept_valued}
use Rattle.jolmurig_command.specs.Accepts.{Accept}
use Rattle.jolmurig_command.specs.Arguments.{check_of, is_valued, of_operand, options_of, with_one, with_value}
use Rattle.jolmurig_command.specs.Words.{ends_options, is_help, is_word}
use Rattle.jolmurig_command.specs.declared.command.Command.TheVariants as command
use Rattle.jolmurig_command.specs.declared.command.Topic.TheVariants as topic
use Rattle.jolmurig_command.specs.Shows.{Show}

-- behind an option in one argument, or a file
pub behind_one : (s next : Show) (w : List ℕ) (rest : List (List ℕ)) → is_help w ≡ false → ends_options w ≡ false → is_valued w ≡ false
    → with_one w s ≡ Ok next → options_of s (w ∷ rest) ≡ options_of next rest
behind_one s next w [] h e v f = rw (h, e, v, f) refl
behind_one s next w (r ∷ rest) h e v f = rw (h, e, v, f) refl

-- behind an option and its value
pub behind_value : {T : Type 0} (text : T → List ℕ) (s next : Show) (w : List ℕ) (rest behind : List T) (value : T) → rest ≡ value ∷ behind
    → is_help w ≡ false → ends_options w ≡ false → is_valued w ≡ true → with_value w (text value) s ≡ Ok next
    → options_of s (w ∷ map text rest) ≡ options_of next (map text behind)
behind_value text s next w rest behind value p h e v f = rw (p, h, e, v, f) refl

-- there are fewer of them
pub fewer : {T : Type 0} (rest behind : List T) (value : T) → rest ≡ value ∷ behind → length behind ≤ length rest
fewer rest behind value p = let n : length rest ≡ suc (length behind) = ap length p in omega (arith, n)

-- the same of `accept`
pub behind_accept_one : (a next : Accept) (w : List ℕ) (rest : List (List ℕ)) → is_help w ≡ false → ends_options w ≡ false → accept_valued w ≡ false
    → accept_one w a ≡ Ok next → accept_options a (w ∷ rest) ≡ accept_options next rest
behind_accept_one a next w [] h e v f = rw (h, e, v, f) refl
behind_accept_one a next w (r ∷ rest) h e v f = rw (h, e, v, f) refl

pub behind_accept_value : {T : Type 0} (text : T → List ℕ) (a next : Accept) (w : List ℕ) (rest behind : List T) (value : T) → rest ≡ value ∷ behind
    → is_help w ≡ false → ends_options w ≡ false → accept_valued w ≡ true → accept_value w (text value) a ≡ Ok next
    → accept_options a (w ∷ map text rest) ≡ accept_options next (map text behind)
behind_accept_value text a next w rest behind value p h e v f = rw (p, h, e, v, f) refl

-- `check --as TYPE` in two arguments
pub as_two : {T : Type 0} (text : T → List ℕ) (words : List T) (w name : T) (rest behind : List T) → words ≡ w ∷ rest → rest ≡ name ∷ behind
    → is_help (text w) ≡ false → is_word (text w) (codes "--as") ≡ true
    → check_of (map text words) ≡ of_operand topic.Check (command.Check (text name)) (map text behind)
as_two text words w name rest behind p q h a = rw (p, q, h, a) refl
