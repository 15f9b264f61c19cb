-- From what C can hand in to every call: a library that keeps the contracts there does what one does that keeps them everywhere. Assumes nothing.
use mathlib.Core.Path.{◌≡◌, refl, sym, ap}
use mathlib.Core.Bool.{Bool, true, cond}
use Rattle.supervisor.proofs.Laws.{by_cases}
use Rattle.demands.specs.Library.{Library}
use Rattle.demands.specs.Contracts.{KeepsFor, Keeps}
use Rattle.demands.specs.Widens.{SameFor, Widens}
use Rattle.demands.specs.FromC.{from_c}
use Rattle.demands.proofs.Ours.{ours, ours-keep}

-- where C can make the call x, and elsewhere ours
abbrev widen : Library → Library
widen x = record {
  send = λ c. cond (from_c.send c) (x.send c) (ours.send c);
  check = λ f. cond (from_c.check f) (x.check f) (ours.check f);
  read = λ c. cond (from_c.read c) (x.read c) (ours.read c);
  data_write = λ c. cond (from_c.data_write c) (x.data_write c) (ours.data_write c);
  data_crc = λ c. cond (from_c.data_crc c) (x.data_crc c) (ours.data_crc c);
  data_check = λ c. cond (from_c.data_check c) (x.data_check c) (ours.data_check c);
  data_read = λ c. cond (from_c.data_read c) (x.data_read c) (ours.data_read c);
  eoc_write = λ c. cond (from_c.eoc_write c) (x.eoc_write c) (ours.eoc_write c);
  eoc_read = λ c. cond (from_c.eoc_read c) (x.eoc_read c) (ours.eoc_read c);
  eoc_hand_up = λ c. cond (from_c.eoc_hand_up c) (x.eoc_hand_up c) (ours.eoc_hand_up c);
  scrambler_start = λ e. cond (from_c.scrambler_start e) (x.scrambler_start e) (ours.scrambler_start e);
  bit = λ way c. cond (from_c.bit c) (x.bit way c) (ours.bit way c);
  run = λ way c. cond (from_c.run c) (x.run way c) (ours.run way c);
  descramble_frame = λ c. cond (from_c.descramble_frame c) (x.descramble_frame c) (ours.descramble_frame c);
  receive_start = λ e. cond (from_c.receive_start e) (x.receive_start e) (ours.receive_start e);
  receive = λ c. cond (from_c.receive c) (x.receive c) (ours.receive c);
  activation = λ b. cond (from_c.activation b) (x.activation b) (ours.activation b);
  level = λ b. cond (from_c.level b) (x.level b) (ours.level b);
  code = λ l. cond (from_c.code l) (x.code l) (ours.code l);
  encoder_start = λ c. cond (from_c.encoder_start c) (x.encoder_start c) (ours.encoder_start c);
  encode = λ c. cond (from_c.encode c) (x.encode c) (ours.encode c);
  encode_run = λ c. cond (from_c.encode_run c) (x.encode_run c) (ours.encode_run c);
  history_start = λ s. cond (from_c.history_start s) (x.history_start s) (ours.history_start s);
  precode = λ c. cond (from_c.precode c) (x.precode c) (ours.precode c);
  decode = λ c. cond (from_c.decode c) (x.decode c) (ours.decode c);
  shape = λ y. cond (from_c.shape y) (x.shape y) (ours.shape y);
  start = λ c. cond (from_c.start c) (x.start c) (ours.start c);
  step = λ c. cond (from_c.step c) (x.step c) (ours.step c);
  run_codes = λ c. cond (from_c.run_codes c) (x.run_codes c) (ours.run_codes c);
}

module _ (x : Library) (k : KeepsFor from_c x) where
  keeps : Keeps (widen x)
  keeps = record {
    send = λ c h. by_cases (from_c.send c) (λ e. rw e (k.send c e)) (λ e. rw e (ours-keep.send c refl));
    check = λ f h. by_cases (from_c.check f) (λ e. rw e (k.check f e)) (λ e. rw e (ours-keep.check f refl));
    read = λ c h. by_cases (from_c.read c) (λ e. rw e (k.read c e)) (λ e. rw e (ours-keep.read c refl));
    data_write = λ c h. by_cases (from_c.data_write c) (λ e. rw e (k.data_write c e)) (λ e. rw e (ours-keep.data_write c refl));
    data_crc = λ c h. by_cases (from_c.data_crc c) (λ e. rw e (k.data_crc c e)) (λ e. rw e (ours-keep.data_crc c refl));
    data_check = λ c h. by_cases (from_c.data_check c) (λ e. rw e (k.data_check c e)) (λ e. rw e (ours-keep.data_check c refl));
    data_read = λ c h. by_cases (from_c.data_read c) (λ e. rw e (k.data_read c e)) (λ e. rw e (ours-keep.data_read c refl));
    eoc_write = λ c h. by_cases (from_c.eoc_write c) (λ e. rw e (k.eoc_write c e)) (λ e. rw e (ours-keep.eoc_write c refl));
    eoc_read = λ c h. by_cases (from_c.eoc_read c) (λ e. rw e (k.eoc_read c e)) (λ e. rw e (ours-keep.eoc_read c refl));
    eoc_hand_up = λ c h. by_cases (from_c.eoc_hand_up c) (λ e. rw e (k.eoc_hand_up c e)) (λ e. rw e (ours-keep.eoc_hand_up c refl));
    scrambler_start = λ e h. by_cases (from_c.scrambler_start e) (λ t. rw t (k.scrambler_start e t)) (λ t. rw t (ours-keep.scrambler_start e refl));
    bit = λ way c h. by_cases (from_c.bit c) (λ e. rw e (k.bit way c e)) (λ e. rw e (ours-keep.bit way c refl));
    run = λ way c h. by_cases (from_c.run c) (λ e. rw e (k.run way c e)) (λ e. rw e (ours-keep.run way c refl));
    descramble_frame = λ c h. by_cases (from_c.descramble_frame c) (λ e. rw e (k.descramble_frame c e)) (λ e. rw e (ours-keep.descramble_frame c refl));
    receive_start = λ e h. by_cases (from_c.receive_start e) (λ t. rw t (k.receive_start e t)) (λ t. rw t (ours-keep.receive_start e refl));
    receive = λ c h. by_cases (from_c.receive c) (λ e. rw e (k.receive c e)) (λ e. rw e (ours-keep.receive c refl));
    activation = λ b h. by_cases (from_c.activation b) (λ e. rw e (k.activation b e)) (λ e. rw e (ours-keep.activation b refl));
    level = λ b h. by_cases (from_c.level b) (λ e. rw e (k.level b e)) (λ e. rw e (ours-keep.level b refl));
    code = λ l h. by_cases (from_c.code l) (λ e. rw e (k.code l e)) (λ e. rw e (ours-keep.code l refl));
    encoder_start = λ c h. by_cases (from_c.encoder_start c) (λ e. rw e (k.encoder_start c e)) (λ e. rw e (ours-keep.encoder_start c refl));
    encode = λ c h. by_cases (from_c.encode c) (λ e. rw e (k.encode c e)) (λ e. rw e (ours-keep.encode c refl));
    encode_run = λ c h. by_cases (from_c.encode_run c) (λ e. rw e (k.encode_run c e)) (λ e. rw e (ours-keep.encode_run c refl));
    history_start = λ s h. by_cases (from_c.history_start s) (λ e. rw e (k.history_start s e)) (λ e. rw e (ours-keep.history_start s refl));
    precode = λ c h. by_cases (from_c.precode c) (λ e. rw e (k.precode c e)) (λ e. rw e (ours-keep.precode c refl));
    decode = λ c h. by_cases (from_c.decode c) (λ e. rw e (k.decode c e)) (λ e. rw e (ours-keep.decode c refl));
    shape = λ y h. by_cases (from_c.shape y) (λ e. rw e (k.shape y e)) (λ e. rw e (ours-keep.shape y refl));
    start = λ c h. by_cases (from_c.start c) (λ e. rw e (k.start c e)) (λ e. rw e (ours-keep.start c refl));
    step = λ c h. by_cases (from_c.step c) (λ e. rw e (k.step c e)) (λ e. rw e (ours-keep.step c refl));
    run_codes = λ c h. by_cases (from_c.run_codes c) (λ e. rw e (k.run_codes c e)) (λ e. rw e (ours-keep.run_codes c refl));
  }

  -- what is chosen where the test holds
  chosen : {A : Type 0} (b : Bool) (u v : A) → b ≡ true → u ≡ cond b u v
  chosen b u v e = sym (ap (λ (t : Bool). cond t u v) e)

  same : SameFor from_c x (widen x)
  same = record {
    send = λ c e. chosen (from_c.send c) (x.send c) (ours.send c) e;
    check = λ f e. chosen (from_c.check f) (x.check f) (ours.check f) e;
    read = λ c e. chosen (from_c.read c) (x.read c) (ours.read c) e;
    data_write = λ c e. chosen (from_c.data_write c) (x.data_write c) (ours.data_write c) e;
    data_crc = λ c e. chosen (from_c.data_crc c) (x.data_crc c) (ours.data_crc c) e;
    data_check = λ c e. chosen (from_c.data_check c) (x.data_check c) (ours.data_check c) e;
    data_read = λ c e. chosen (from_c.data_read c) (x.data_read c) (ours.data_read c) e;
    eoc_write = λ c e. chosen (from_c.eoc_write c) (x.eoc_write c) (ours.eoc_write c) e;
    eoc_read = λ c e. chosen (from_c.eoc_read c) (x.eoc_read c) (ours.eoc_read c) e;
    eoc_hand_up = λ c e. chosen (from_c.eoc_hand_up c) (x.eoc_hand_up c) (ours.eoc_hand_up c) e;
    scrambler_start = λ e t. chosen (from_c.scrambler_start e) (x.scrambler_start e) (ours.scrambler_start e) t;
    bit = λ way c e. chosen (from_c.bit c) (x.bit way c) (ours.bit way c) e;
    run = λ way c e. chosen (from_c.run c) (x.run way c) (ours.run way c) e;
    descramble_frame = λ c e. chosen (from_c.descramble_frame c) (x.descramble_frame c) (ours.descramble_frame c) e;
    receive_start = λ e t. chosen (from_c.receive_start e) (x.receive_start e) (ours.receive_start e) t;
    receive = λ c e. chosen (from_c.receive c) (x.receive c) (ours.receive c) e;
    activation = λ b e. chosen (from_c.activation b) (x.activation b) (ours.activation b) e;
    level = λ b e. chosen (from_c.level b) (x.level b) (ours.level b) e;
    code = λ l e. chosen (from_c.code l) (x.code l) (ours.code l) e;
    encoder_start = λ c e. chosen (from_c.encoder_start c) (x.encoder_start c) (ours.encoder_start c) e;
    encode = λ c e. chosen (from_c.encode c) (x.encode c) (ours.encode c) e;
    encode_run = λ c e. chosen (from_c.encode_run c) (x.encode_run c) (ours.encode_run c) e;
    history_start = λ s e. chosen (from_c.history_start s) (x.history_start s) (ours.history_start s) e;
    precode = λ c e. chosen (from_c.precode c) (x.precode c) (ours.precode c) e;
    decode = λ c e. chosen (from_c.decode c) (x.decode c) (ours.decode c) e;
    shape = λ y e. chosen (from_c.shape y) (x.shape y) (ours.shape y) e;
    start = λ c e. chosen (from_c.start c) (x.start c) (ours.start c) e;
    step = λ c e. chosen (from_c.step c) (x.step c) (ours.step c) e;
    run_codes = λ c e. chosen (from_c.run_codes c) (x.run_codes c) (ours.run_codes c) e;
  }

pub widened : (x : Library) → Widens x
widened x k = (widen x, keeps x k, same x k)
