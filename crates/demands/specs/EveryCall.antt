-- Every call, of any numbers and lists.
use Rattle.std.specs.Prelude.{true}
use Rattle.demands.specs.FromC.{Calls}

-- all of them are meant
abbrev pub every_call : Calls
every_call = record {
  send = λ c. true;
  check = λ frame. true;
  read = λ c. true;
  data_write = λ c. true;
  data_crc = λ c. true;
  data_check = λ c. true;
  data_read = λ c. true;
  eoc_write = λ c. true;
  eoc_read = λ c. true;
  eoc_hand_up = λ c. true;
  scrambler_start = λ end. true;
  bit = λ c. true;
  run = λ c. true;
  descramble_frame = λ c. true;
  receive_start = λ end. true;
  receive = λ c. true;
  activation = λ bit. true;
  level = λ code. true;
  code = λ sixteenths. true;
  encoder_start = λ c. true;
  encode = λ c. true;
  encode_run = λ c. true;
  history_start = λ history. true;
  precode = λ c. true;
  decode = λ c. true;
  shape = λ y. true;
  start = λ c. true;
  step = λ c. true;
  run_codes = λ c. true;
}
