-- Cipher block chaining (NIST SP 800-38A, 6.2), block by block, as the calls that work in place return it. Private contracts alone
-- cite this: those of public calls say it by `IsCbc` and `Cts`. Blocks have size octets, and v is the block before the first.
use Rattle.std.specs.Prelude.{ℕ, zero, suc, List, [], ◌++◌, take, drop}
use Rattle.krb_crypto_hash.specs.Xor.{xor_lists}

-- the first n blocks of p, each combined with the block before it and encrypted, concatenated
unfoldable pub linked : ℕ → (List ℕ → List ℕ) → ℕ → List ℕ → List ℕ → List ℕ
linked size E zero v p = []
linked size E (suc n) v p = E (xor_lists (take size p) v) ++ linked size E n (E (xor_lists (take size p) v)) (drop size p)

-- the last of the n encrypted blocks
unfoldable pub last_linked : ℕ → (List ℕ → List ℕ) → ℕ → List ℕ → List ℕ → List ℕ
last_linked size E zero v p = v
last_linked size E (suc n) v p = last_linked size E n (E (xor_lists (take size p) v)) (drop size p)

-- the first n blocks of c, each decrypted and combined with the block before it, concatenated
unfoldable pub unlinked : ℕ → (List ℕ → List ℕ) → ℕ → List ℕ → List ℕ → List ℕ
unlinked size D zero v c = []
unlinked size D (suc n) v c = xor_lists (D (take size c)) v ++ unlinked size D n (take size c) (drop size c)

-- the last of the first n blocks of c
unfoldable pub last_block : ℕ → ℕ → List ℕ → List ℕ → List ℕ
last_block size zero v c = v
last_block size (suc n) v c = last_block size n (take size c) (drop size c)
