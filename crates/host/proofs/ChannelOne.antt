-- One result per call of the functions of operations channel messages. Assumes nothing.
use mathlib.Core.Path.{◌≡◌, sym, ◌∙◌}
use mathlib.Core.List.{List}
use Prim.Native.Nat.{ℕ}
use Rattle.host.specs.declared.channel.EocForm.{EocForm}
use Rattle.host.specs.declared.channel.EocMessage.{EocMessage}
use Rattle.host.specs.declared.channel.EocHandedUp.{EocHandedUp}
use Rattle.host.specs.Channel.{EocWritten, EocRead, EocHanded}

pub sdsl-eoc-write-one : (source destination number : ℕ) (contents room : List ℕ) (r r' : EocForm) (t t' : List ℕ)
    → EocWritten source destination number contents room r t → EocWritten source destination number contents room r' t' → (r ≡ r') × (t ≡ t')
sdsl-eoc-write-one source destination number contents room r r' t t' p q = (p.returned ∙ sym q.returned, p.room_left ∙ sym q.room_left)

pub sdsl-eoc-read-one : (octets contents : List ℕ) (r r' : EocMessage) (t t' : List ℕ) → EocRead octets contents r t → EocRead octets contents r' t'
    → (r ≡ r') × (t ≡ t')
sdsl-eoc-read-one octets contents r r' t t' p q = (p.returned ∙ sym q.returned, p.room_left ∙ sym q.room_left)

pub sdsl-eoc-hand-up-one : (octets units : List ℕ) (r r' : EocHandedUp) (t t' : List ℕ) → EocHanded octets units r t → EocHanded octets units r' t'
    → (r ≡ r') × (t ≡ t')
sdsl-eoc-hand-up-one octets units r r' t t' p q = (p.returned ∙ sym q.returned, p.units_left ∙ sym q.units_left)
