use Rattle.krb_client.proofs.keys.seeds.aes256_sha384_key.Goals as goal

pub returns : goal.returns
returns c = (
  c.pbkdf2_hmac_sha384.new.out,
  search,
  rw (c.as_slice.ensures.value, c.in_ok-named.ensures) at c.pbkdf2_hmac_sha384.ensures,
  c.in_ok-key.ensures.derived,
)
