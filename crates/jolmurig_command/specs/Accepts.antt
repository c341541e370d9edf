-- What is asked about a token.
use Rattle.std.specs.Prelude.{ℕ, Bool, false, List, [], Option, None}
use Rattle.krb_accept.specs.declared.settings.PacCheck.{PacCheck}

-- the keytab, the time, the skew, the servers, the realms and the channel bindings as texts; what is done with the PAC; what is taken; and the file
-- that is read, which is none of standard input; and whether an argument stands for what is read
pub record Accept : Type 0 where
  pub keytab : Option (List ℕ)
  pub time : Option (List ℕ)
  pub skew : Option (List ℕ)
  pub servers : List (List ℕ)
  pub realms : List (List ℕ)
  pub bindings : Option (List ℕ)
  pub pac : Option PacCheck
  pub is_bare : Bool
  pub takes_other : Bool
  pub file : Option (List ℕ)
  pub is_named : Bool

-- without any option
abbrev pub no_option : Accept
no_option = record {
  keytab = None;
  time = None;
  skew = None;
  servers = [];
  realms = [];
  bindings = None;
  pac = None;
  is_bare = false;
  takes_other = false;
  file = None;
  is_named = false;
}
