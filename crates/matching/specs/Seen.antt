-- What contracts see of a packet: its items, not where these lie in memory.
use Rattle.matching.specs.PacketValue.{PacketValue}
use Rattle.matching.specs.declared.packet.Packet.TheInside.{Inside}

-- the packet that these fields are
abbrev pub seen : Inside → PacketValue
seen p = record {
  source = p.source;
  clock = p.clock;
  number = p.number;
  context = p.context;
  tag = p.tag;
  items = p.payload.items;
}
