-- The inverse cipher undoes the cipher, from both sides.
use Rattle.std.proofs.Common.{◌≡◌, ℕ, zero, suc, ◌-◌, List, refl, ap, ◌∙◌}
use Rattle.krb_crypto_block.specs.Modes.{IsOctets}
use Rattle.krb_crypto_block.specs.Aes.{sub_bytes, shift_rows, mix_columns, add_round_key, round, rounds, last_round, cipher}
use Rattle.krb_crypto_block.specs.InverseCipher.{inverse_sub_bytes, inverse_shift_rows, inverse_mix_columns, inverse_round, inverse_last_round, inverse_rounds, decrypt}
use Rattle.krb_crypto_block.proofs.AesStates.{IsState, sub_bytes-IsState, inverse_sub_bytes-IsState, shift_rows-IsState, inverse_shift_rows-IsState, mix_columns-IsState, inverse_mix_columns-IsState, add_round_key-IsState, add_round_key_twice, inverse_sub_bytes-sub_bytes, sub_bytes-inverse_sub_bytes, inverse_shift_rows-shift_rows, shift_rows-inverse_shift_rows, inverse_mix_columns-mix_columns, mix_columns-inverse_mix_columns}

module _ (w : List ℕ) (octets : IsOctets w) where
  pub round-IsState : (n : ℕ) (s : List ℕ) → IsState s → IsState (round w n s)
  round-IsState n s is = add_round_key-IsState w n _ octets (mix_columns-IsState _ (shift_rows-IsState _ (sub_bytes-IsState s is)))

  pub last_round-IsState : (n : ℕ) (s : List ℕ) → IsState s → IsState (last_round w n s)
  last_round-IsState n s is = add_round_key-IsState w n _ octets (shift_rows-IsState _ (sub_bytes-IsState s is))

  inverse_round-IsState : (n : ℕ) (s : List ℕ) → IsState s → IsState (inverse_round w n s)
  inverse_round-IsState n s is = inverse_sub_bytes-IsState _ (inverse_shift_rows-IsState _ (inverse_mix_columns-IsState _ (add_round_key-IsState w n s octets is)))

  inverse_last_round-IsState : (n : ℕ) (s : List ℕ) → IsState s → IsState (inverse_last_round w n s)
  inverse_last_round-IsState n s is = inverse_sub_bytes-IsState _ (inverse_shift_rows-IsState _ (add_round_key-IsState w n s octets is))

  pub rounds-IsState : (p : List ℕ) (n : ℕ) → IsState p → IsState (rounds w p n)
  unfolding rounds
  rounds-IsState p zero is = add_round_key-IsState w 0 p octets is
  rounds-IsState p (suc n) is = round-IsState (suc n) (rounds w p n) (rounds-IsState p n is)

  inverse_rounds-IsState : (n : ℕ) (s : List ℕ) → IsState s → IsState (inverse_rounds w s n)
  unfolding inverse_rounds
  inverse_rounds-IsState zero s is = is
  inverse_rounds-IsState (suc n) s is = inverse_rounds-IsState n (inverse_round w (suc n) s) (inverse_round-IsState (suc n) s is)

  inverse_last_round-last_round : (n : ℕ) (s : List ℕ) → IsState s → inverse_last_round w n (last_round w n s) ≡ s
  inverse_last_round-last_round n s is =
      let a = sub_bytes-IsState s is in
      let b = shift_rows-IsState (sub_bytes s) a in
      ap (λ (t : List ℕ). inverse_sub_bytes (inverse_shift_rows t)) (add_round_key_twice w n (shift_rows (sub_bytes s)) b)
      ∙ ap inverse_sub_bytes (inverse_shift_rows-shift_rows (sub_bytes s) a)
      ∙ inverse_sub_bytes-sub_bytes s is

  last_round-inverse_last_round : (n : ℕ) (s : List ℕ) → IsState s → last_round w n (inverse_last_round w n s) ≡ s
  last_round-inverse_last_round n s is =
      let a = add_round_key-IsState w n s octets is in
      let b = inverse_shift_rows-IsState (add_round_key w n s) a in
      ap (λ (t : List ℕ). add_round_key w n (shift_rows t)) (sub_bytes-inverse_sub_bytes (inverse_shift_rows (add_round_key w n s)) b)
      ∙ ap (add_round_key w n) (shift_rows-inverse_shift_rows (add_round_key w n s) a)
      ∙ add_round_key_twice w n s is

  inverse_round-round : (n : ℕ) (s : List ℕ) → IsState s → inverse_round w n (round w n s) ≡ s
  inverse_round-round n s is =
      let a = sub_bytes-IsState s is in
      let b = shift_rows-IsState (sub_bytes s) a in
      let d = mix_columns-IsState (shift_rows (sub_bytes s)) b in
      ap (λ (t : List ℕ). inverse_sub_bytes (inverse_shift_rows (inverse_mix_columns t))) (add_round_key_twice w n (mix_columns (shift_rows (sub_bytes s))) d)
      ∙ ap (λ (t : List ℕ). inverse_sub_bytes (inverse_shift_rows t)) (inverse_mix_columns-mix_columns (shift_rows (sub_bytes s)) b)
      ∙ ap inverse_sub_bytes (inverse_shift_rows-shift_rows (sub_bytes s) a)
      ∙ inverse_sub_bytes-sub_bytes s is

  round-inverse_round : (n : ℕ) (s : List ℕ) → IsState s → round w n (inverse_round w n s) ≡ s
  round-inverse_round n s is =
      let a = add_round_key-IsState w n s octets is in
      let b = inverse_mix_columns-IsState (add_round_key w n s) a in
      let d = inverse_shift_rows-IsState (inverse_mix_columns (add_round_key w n s)) b in
      ap (λ (t : List ℕ). add_round_key w n (mix_columns (shift_rows t))) (sub_bytes-inverse_sub_bytes (inverse_shift_rows (inverse_mix_columns (add_round_key w n s))) d)
      ∙ ap (λ (t : List ℕ). add_round_key w n (mix_columns t)) (shift_rows-inverse_shift_rows (inverse_mix_columns (add_round_key w n s)) b)
      ∙ ap (add_round_key w n) (mix_columns-inverse_mix_columns (add_round_key w n s) a)
      ∙ add_round_key_twice w n s is

  back : (n : ℕ) (s : List ℕ) → IsState s → rounds w (add_round_key w 0 (inverse_rounds w s n)) n ≡ s
  unfolding rounds inverse_rounds
  back zero s is = add_round_key_twice w 0 s is
  back (suc n) s is =
      ap (round w (suc n)) (back n (inverse_round w (suc n) s) (inverse_round-IsState (suc n) s is))
      ∙ round-inverse_round (suc n) s is

  forth : (n : ℕ) (q : List ℕ) → IsState q → inverse_rounds w (rounds w q n) n ≡ add_round_key w 0 q
  unfolding rounds inverse_rounds
  forth zero q is = refl
  forth (suc n) q is =
      ap (λ (t : List ℕ). inverse_rounds w t n) (inverse_round-round (suc n) (rounds w q n) (rounds-IsState q n is))
      ∙ forth n q is

  pub cipher-decrypt : (nr : ℕ) (c : List ℕ) → IsState c → cipher w nr (decrypt w nr c) ≡ c
  cipher-decrypt nr c is =
      ap (last_round w nr) (back (nr - 1) (inverse_last_round w nr c) (inverse_last_round-IsState nr c is))
      ∙ last_round-inverse_last_round nr c is

  pub decrypt-cipher : (nr : ℕ) (q : List ℕ) → IsState q → decrypt w nr (cipher w nr q) ≡ q
  decrypt-cipher nr q is =
      ap (λ (t : List ℕ). add_round_key w 0 (inverse_rounds w t (nr - 1))) (inverse_last_round-last_round nr (rounds w q (nr - 1)) (rounds-IsState q (nr - 1) is))
      ∙ ap (add_round_key w 0) (forth (nr - 1) q is)
      ∙ add_round_key_twice w 0 q is

  pub cipher-IsState : (nr : ℕ) (p : List ℕ) → IsState p → IsState (cipher w nr p)
  cipher-IsState nr p is = last_round-IsState nr _ (rounds-IsState p (nr - 1) is)

  pub decrypt-IsState : (nr : ℕ) (c : List ℕ) → IsState c → IsState (decrypt w nr c)
  decrypt-IsState nr c is = add_round_key-IsState w 0 _ octets (inverse_rounds-IsState (nr - 1) _ (inverse_last_round-IsState nr c is))
