-- The protocol's names of its frames, by class and id.
use Rattle.std.specs.Prelude.{ℕ, cond, List, [], ◌∷◌, Some, None, codes, Option, ◌==◌}

-- the value beside a number in a table
abbrev pub beside : {A : Type 0} → List (ℕ × A) → ℕ → A → A
beside [] n otherwise = otherwise
beside (entry ∷ more) n otherwise = cond (n == entry.0) entry.1 (beside more n otherwise)

abbrev pub nav_name : ℕ → Option (List ℕ)
nav_name id = beside ((0x00, Some (codes "NAV-STATUS")) ∷ (0x01, Some (codes "NAV-DOP")) ∷ (0x02, Some (codes "NAV-SOL")) ∷ (0x03, Some (codes "NAV-PV")) ∷ (0x06, Some (codes "NAV-IMUATT")) ∷ (0x10, Some (codes "NAV-TIMEUTC")) ∷ (0x11, Some (codes "NAV-CLOCK")) ∷ (0x20, Some (codes "NAV-GPSINFO")) ∷ (0x21, Some (codes "NAV-BDSINFO")) ∷ (0x22, Some (codes "NAV-GLNINFO")) ∷ []) id None

abbrev pub tim_name : ℕ → Option (List ℕ)
tim_name id = beside ((0x00, Some (codes "TIM-TP")) ∷ []) id None

abbrev pub rxm_name : ℕ → Option (List ℕ)
rxm_name id = beside ((0x07, Some (codes "RXM-SENSOR")) ∷ (0x10, Some (codes "RXM-MEASX")) ∷ (0x11, Some (codes "RXM-SVPOS")) ∷ []) id None

abbrev pub ack_name : ℕ → Option (List ℕ)
ack_name id = beside ((0x00, Some (codes "ACK-NACK")) ∷ (0x01, Some (codes "ACK-ACK")) ∷ []) id None

abbrev pub cfg_name : ℕ → Option (List ℕ)
cfg_name id = beside ((0x00, Some (codes "CFG-PRT")) ∷ (0x01, Some (codes "CFG-MSG")) ∷ (0x02, Some (codes "CFG-RST")) ∷ (0x03, Some (codes "CFG-TP")) ∷ (0x04, Some (codes "CFG-RATE")) ∷ (0x05, Some (codes "CFG-CFG")) ∷ (0x06, Some (codes "CFG-TMODE")) ∷ (0x07, Some (codes "CFG-NAVX")) ∷ (0x08, Some (codes "CFG-GROUP")) ∷ (0x10, Some (codes "CFG-INS")) ∷ []) id None

abbrev pub msg_name : ℕ → Option (List ℕ)
msg_name id = beside ((0x00, Some (codes "MSG-BDSUTC")) ∷ (0x01, Some (codes "MSG-BDSION")) ∷ (0x02, Some (codes "MSG-BDSEPH")) ∷ (0x05, Some (codes "MSG-GPSUTC")) ∷ (0x06, Some (codes "MSG-GPSION")) ∷ (0x07, Some (codes "MSG-GPSEPH")) ∷ (0x08, Some (codes "MSG-GLNEPH")) ∷ []) id None

abbrev pub mon_name : ℕ → Option (List ℕ)
mon_name id = beside ((0x04, Some (codes "MON-VER")) ∷ (0x09, Some (codes "MON-HW")) ∷ []) id None

abbrev pub aid_name : ℕ → Option (List ℕ)
aid_name id = beside ((0x01, Some (codes "AID-INI")) ∷ (0x03, Some (codes "AID-HUI")) ∷ []) id None

-- the name of the frame of a class and an id
abbrev pub message_name : ℕ → ℕ → Option (List ℕ)
message_name class id = beside ((0x01, nav_name id) ∷ (0x02, tim_name id) ∷ (0x03, rxm_name id) ∷ (0x05, ack_name id) ∷ (0x06, cfg_name id) ∷ (0x08, msg_name id) ∷ (0x0a, mon_name id) ∷ (0x0b, aid_name id) ∷ []) class None
