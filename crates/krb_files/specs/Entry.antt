-- An entry of a keytab (MIT Kerberos, "Keytab file format").
use Rattle.std.specs.Prelude.{ℕ, List}
use Rattle.krb_files.specs.FieldReading.{Principal}

pub record Entry : Type 0 where
  pub principal : Principal
  pub name_type : ℕ
  pub timestamp : ℕ
  pub kvno : ℕ
  pub etype : ℕ
  pub key : List ℕ
