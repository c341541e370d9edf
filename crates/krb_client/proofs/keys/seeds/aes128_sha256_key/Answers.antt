use Rattle.krb_client.proofs.keys.seeds.aes128_sha256_key.Goals as goal

pub returns : goal.returns
returns c = (
  c.pbkdf2_hmac_sha256.new.out,
  search,
  rw (c.as_slice.ensures.value, c.in_ok-named.ensures) at c.pbkdf2_hmac_sha256.ensures,
  c.in_ok-key.ensures.derived,
)
