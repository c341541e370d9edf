-- A mechanism that protects nothing: tokens in turn, and MICs that are a key and the text.
use Rattle.std.specs.Prelude.{◌≡◌, ◌&&◌, ◌==◌, nat_eq, ℕ, zero, suc, List, [], ◌∷◌, Bool, true, false, is_some}
use Rattle.std.specs.Cmp.Lexicographic.{pointwise}
use Rattle.krb_spnego_rules.specs.Meaning.{Meaning}
use Rattle.krb_spnego_rules.specs.Turns.{progress_in}
use Rattle.krb_spnego_rules.specs.declared.words.Progress.{Progress}
use Rattle.krb_spnego_rules.specs.declared.words.Progress.TheVariants.{Continues, EndsWithToken, Ends}
use Rattle.test_values.specs.declared.toy.Toy.{Toy}

-- how the context stands where so many tokens are left, and how many are left then
abbrev pub progress_at : ℕ → Progress
progress_at zero = Ends
progress_at (suc zero) = EndsWithToken
progress_at (suc (suc n)) = Continues

abbrev pub less : ℕ → ℕ
less zero = zero
less (suc n) = n

-- of a token that came
abbrev pub left_at : Bool → ℕ → ℕ
left_at false left = left
left_at true left = less left

abbrev pub with_left : Toy → ℕ → Toy
with_left toy left = record { arcs = toy.arcs; left = left; key = toy.key; integrity = toy.integrity }

abbrev pub is_mic : ℕ → List ℕ → List ℕ → Bool
is_mic key text [] = false
is_mic key text (x ∷ xs) = (x == key) && pointwise nat_eq xs text

abbrev pub toy_meaning : Meaning Toy
toy_meaning = record {
  oid = λ toy. toy.arcs.items;
  names = λ toy arcs. pointwise nat_eq arcs toy.arcs.items;
  integrity = λ toy. toy.integrity;
  bare = λ toy octets. false;
  established = λ toy. toy.left ≡ zero;
  steps = λ toy token after turn.
      (after ≡ with_left toy (less (left_at (is_some token) toy.left))) × (progress_in turn ≡ progress_at (left_at (is_some token) toy.left));
  refuses = λ toy token. toy.left ≡ zero;
  holds = λ toy text mic. is_mic toy.key text mic ≡ true;
  makes = λ toy text mic after. (after ≡ toy) × (mic ≡ toy.key ∷ text);
}
