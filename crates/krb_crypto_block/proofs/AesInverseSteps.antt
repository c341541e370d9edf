-- A block that is being decrypted, between two rounds.
use Rattle.std.proofs.Common.{◌≡◌, ℕ, ◌+◌, ◌-◌, ◌≤◌, List, map, ap, ◌∙◌, refl, arith}
use Rattle.krb_crypto_block.specs.Modes.{IsOctets, IsBlock}
use Rattle.krb_crypto_block.specs.Aes.{add_round_key}
use Rattle.krb_crypto_block.specs.InverseCipher.{decrypt}
use Rattle.krb_crypto_block.specs.AesWords.{inverse_cipher_round, inverse_cipher_rounds, inverse_cipher_last}
use Rattle.krb_crypto_block.proofs.AesKeys.{decrypt_by_steps}
use Rattle.krb_crypto_block.specs.AesLanes.{inverse_form}
use Rattle.krb_crypto_block.proofs.AesKeys.{inverse_block, added_block, inverse_step}

-- the lanes s hold a state that the rounds from nr - i on take to what they take p with the last key to
pub record HoldsInverseState (w : List ℕ) (nr i : ℕ) (p s : List ℕ) : Type 0 where
  pub state : List ℕ
  pub block : IsBlock 16 state
  pub held : s ≡ map inverse_form state
  pub ahead : inverse_cipher_rounds w state (nr - i) ≡ inverse_cipher_rounds w (add_round_key w nr p) (nr - 1)

module _ (w : List ℕ) (nr i : ℕ) (p s : List ℕ) (octets : IsOctets w) where
  pub first_inverse_state : (r : List ℕ) → IsBlock 16 p → r ≡ map inverse_form (add_round_key w nr p) → HoldsInverseState w nr 1 p r
  first_inverse_state r is made = record { state = add_round_key w nr p; block = added_block w p nr octets is; held = made; ahead = refl }

  pub next_inverse_state : (o : HoldsInverseState w nr i p s) → (r : List ℕ) → 1 ≤ nr - i → r ≡ map inverse_form (inverse_cipher_round w (nr - i) o.state) → HoldsInverseState w nr (i + 1) p r
  next_inverse_state o r from made =
      record {
        state = inverse_cipher_round w (nr - i) o.state;
        block = inverse_block w o.state (nr - i) octets o.block;
        held = made;
        ahead = inverse_step w o.state (nr - i) (nr - (i + 1)) from (omega arith) ∙ o.ahead;
      }

  pub last_inverse_state : (o : HoldsInverseState w nr i p s) → nr - i ≡ 0 → inverse_cipher_last w o.state ≡ decrypt w nr p
  unfolding inverse_cipher_rounds
  last_inverse_state o done = ap (inverse_cipher_last w) (rw done at o.ahead) ∙ decrypt_by_steps w p nr
