use Rattle.std.proofs.lemmas.Int.{to_z-of_z}
use Rattle.krb_crypto.proofs.prepared.ChecksumKey.new.Goals as goal
use Rattle.krb_crypto.proofs.prepared.ChecksumKey.new.Goals.{in-HmacSha196Aes256+in_ok-new-in-HmacSha196Aes256, in-HmacSha196Aes128+in_ok-new-in-HmacSha196Aes128, in-HmacSha1Des3Kd+in_ok-new-in-HmacSha1Des3Kd, in-HmacSha256128Aes128+in_ok-new-in-HmacSha256128Aes128, in-HmacSha384192Aes256+in_ok-new-in-HmacSha384192Aes256}

pub returns-clause-prepared : goal.returns-clause-prepared
returns-clause-prepared c =
    let fits = c.ranges.key_usage in
    elim c.match-suite.branch [
      | in-HmacSha196Aes256+in_ok-new-in-HmacSha196Aes256 w ↦ rw w.keys-is (record { size = w.in_ok-new-in-HmacSha196Aes256.ensures.made.0; kc = simp to_z-of_z at w.in_ok-new-in-HmacSha196Aes256.ensures.made.1 })
      | in-HmacSha196Aes128+in_ok-new-in-HmacSha196Aes128 w ↦ rw w.keys-is (record { size = w.in_ok-new-in-HmacSha196Aes128.ensures.made.0; kc = simp to_z-of_z at w.in_ok-new-in-HmacSha196Aes128.ensures.made.1 })
      | in-HmacSha1Des3Kd+in_ok-new-in-HmacSha1Des3Kd w ↦ rw w.keys-is (record { size = w.in_ok-new-in-HmacSha1Des3Kd.ensures.made.0; kc = simp to_z-of_z at w.in_ok-new-in-HmacSha1Des3Kd.ensures.made.1 })
      | in-HmacSha256128Aes128+in_ok-new-in-HmacSha256128Aes128 w ↦ rw w.keys-is (record { size = w.in_ok-new-in-HmacSha256128Aes128.ensures.made.0; kc = simp to_z-of_z at w.in_ok-new-in-HmacSha256128Aes128.ensures.made.2 })
      | in-HmacSha384192Aes256+in_ok-new-in-HmacSha384192Aes256 w ↦ rw w.keys-is (record { size = w.in_ok-new-in-HmacSha384192Aes256.ensures.made.0; kc = simp to_z-of_z at w.in_ok-new-in-HmacSha384192Aes256.ensures.made.2 })
    ]
