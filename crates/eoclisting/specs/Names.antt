-- The words for units by their address (002, table 10.5) and for messages by their number (table 10.6).
use Rattle.std.specs.Prelude.{cond, List, ◌++◌, ℕ, ◌-◌, eqb, ltb}
use Rattle.ascii.specs.Text.{text}
use Rattle.forms.specs.Forms.{row_of}
use Rattle.eoc.specs.Addresses.{adjacent, every_unit}

-- a row for each address, and two for addresses that say no unit as a source
abbrev pub units : List ℕ
units =
    text "adjacent unit\nLTU\nNTU\nregenerator 1\nregenerator 2\nregenerator 3\nregenerator 4\nregenerator 5\nregenerator 6\nregenerator 7\n"
    ++ text "regenerator 8\naddress 11\naddress 12\naddress 13\naddress 14\nall\naddress 15\naddress 0\n"

-- F "may only be used as a destination address", and 0 is the adjacent unit as a destination only: as a source they say no unit
abbrev pub source_row : ℕ → ℕ
source_row a = cond (eqb a every_unit) 16 (cond (eqb a adjacent) 17 a)

unfoldable pub source_name : ℕ → List ℕ
source_name a = row_of units (source_row a)

unfoldable pub destination_name : ℕ → List ℕ
destination_name a = row_of units a

-- table 10.6: requests 0 to 22; what its ranges are called; responses 128 to 150; two ranges of responses
abbrev pub names : List ℕ
names =
    text "Reserved\nDiscovery Probe\nInventory Request\nConfiguration Request - SDSL\nReserved for Application Interface Configuration\n"
    ++ text "Configuration Request - Loopback Time-Out\nVirtual Terminal Connect Request\nVirtual Terminal Disconnect Request\n"
    ++ text "Keyboard Data Message\nMaintenance Request - System Loopback\nMaintenance Request - Element Loopback\nStatus Request\n"
    ++ text "Full Status Request\nReserved\nReserved\nSoft Restart/Power back-off Disable Request\nReserved (Future)\nATM Cell Status Request\n"
    ++ text "NTU Configuration Request - Management\nReserved for Voice Transport Request (Future)\nISDN Request\n"
    ++ text "LAPV5 POTS and ISDN setup Request\nDeactivation request\n"
    ++ text "Reserved (Future)\nReserved for Line Management Request\nReserved\nProprietary Message\nExternal Message\nG.997.1 Message\nExcluded\n"
    ++ text "Reserved\nDiscovery Response\nInventory Response\nConfiguration Response - SDSL\n"
    ++ text "Reserved for Application Interface Configuration\nConfiguration Response - Loopback Time-Out\n"
    ++ text "Virtual Terminal Connect Response\nReserved\nScreen Data Message\nMaintenance Status\nReserved\nStatus/SNR\n"
    ++ text "Performance Status SDSL Network Side\nPerformance Status SDSL Customer Side\nReserved for Application Interface Performance\n"
    ++ text "Reserved (Future)\nGeneric Unable to Comply (UTC)\nATM Cell Status Information\nConfiguration Response - Management\n"
    ++ text "Reserved for Voice Transport Response (Future)\nISDN Response\nLAPV5 POTS and ISDN setup Response\nDeactivation Acknowledge\n"
    ++ text "Segment Management Response (reserved)\nProprietary Message Response\n"

-- the row of a message number: of a request, below 128
abbrev pub request_row : ℕ → ℕ
request_row n =
    cond (ltb n 23) n
    (cond (ltb n 64) 23
    (cond (ltb n 89) 24
    (cond (ltb n 112) 25
    (cond (ltb n 120) 26
    (cond (ltb n 122) (n - 93)
    (cond (ltb n 125) 25 29))))))

-- of a response, from 128 on
abbrev pub response_row : ℕ → ℕ
response_row n =
    cond (ltb n 151) (n - 98)
    (cond (ltb n 192) 23
    (cond (ltb n 217) 53
    (cond (ltb n 240) 23
    (cond (ltb n 248) 54
    (cond (ltb n 253) 25 29)))))

-- of either
abbrev pub name_row : ℕ → ℕ
name_row n = cond (ltb n 128) (request_row n) (response_row n)

-- THE NAME of a message
unfoldable pub name_of : ℕ → List ℕ
name_of n = row_of names (name_row n)
