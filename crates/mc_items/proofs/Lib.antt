mod Effects
