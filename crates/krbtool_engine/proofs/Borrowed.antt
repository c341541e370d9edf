-- A suite that is borrowed as a cipher.
use Rattle.std.proofs.Common.{◌≡◌, Bor}
use borrow.Pointer.Hide.{carry_now, carried_same}
use denote.Param.Table.{Entry}
use mir.Syntax.{Dict}
use Rattle.krb_crypto.specs.contracts.cipher_suite.CipherSuite.{the_row}
use Rattle.krb_crypto.specs.contracts.suite_ciphers.CipherSuiteCipher.TheImpl.{ghosts}
use Rattle.krb_crypto.specs.declared.cipher.Cipher.{Ghosts}
use Rattle.krb_crypto.specs.declared.cipher_suite.CipherSuite.{CipherSuite}

-- the cipher is the suite
pub borrowed_suite : (cipher : Entry Ghosts Dict) (methods : Dict) (same : cipher ≡ (the_row, ghosts, methods)) (x : Bor cipher.0.Denot)
    → carry_now Ghosts Dict cipher (the_row, ghosts, methods) same x ≡ cipher.1.encryption_type x.now
borrowed_suite cipher methods same x = carried_same Ghosts Dict cipher (the_row, ghosts, methods) same CipherSuite (λ j y. j.1.encryption_type y.now) x
